-- The dependence graph of a block.
pub mod GraphOf
pub mod Near
