-- The choice of a cycle, row after row, up to the greedy schedule.
pub mod EnteringReady
pub mod IssuableIsReady
pub mod ChosenByRanks
pub mod IssuedChoice
pub mod NextRow
pub mod Scheduled
