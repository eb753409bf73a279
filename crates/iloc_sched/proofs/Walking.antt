-- What waits while a schedule is made: unmet edges, and the buckets of what becomes ready.
pub mod UnmetEdges
pub mod EdgeWalk
pub mod WalkInTables
pub mod EdgeOrNone
pub mod TableReads
pub mod BucketOfCycle
pub mod FirstStates
pub mod StillIssuable
