-- The choice of a cycle, row after row, up to the greedy schedule.
pub mod Ready
pub mod FirstOfAll
pub mod ChosenRows
pub mod RowAfterRow
pub mod OneGreedy
pub mod GreedyExists
