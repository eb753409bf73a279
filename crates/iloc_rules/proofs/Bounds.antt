-- Bounds on the cycles of a schedule, from below and from above.
pub mod PriorityBound
pub mod CoveredCycles
pub mod BusyCycles
