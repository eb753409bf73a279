-- The delay pairs, and the list of them.
pub mod DelayBounds
pub mod WaitedFor
pub mod RisingDelays
pub mod PairLists
pub mod FewerDelays
pub mod PutDelays
