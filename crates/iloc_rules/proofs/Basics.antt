-- Lists, numbers, rows and cases: lemmas of no stage, for the other folders.
pub mod Members
pub mod Maxima
pub mod Ordered
pub mod Rising
pub mod Registers
pub mod Slots
pub mod IssueCycles
pub mod Kinds
pub mod CountedRanges
