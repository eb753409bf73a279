-- Ranks of operations, and sets of ranks as words of bits.
pub mod WordBits
pub mod Cells
pub mod Summaries
pub mod Moves
pub mod Firsts
pub mod Sets
pub mod Calendars
pub mod Counts
pub mod Keys
