-- The kept edges: each is a delay pair, and they say as much as all delay pairs.
pub mod PartialGraphs
pub mod NearPairs
pub mod FarPairs
pub mod AddedEdges
pub mod EdgesInto
pub mod ListedKinds
pub mod LastsNoted
pub mod OneMoreInTables
pub mod SoundGraphs
pub mod BySources
