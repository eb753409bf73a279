-- The renamed block: `rename`, and `Names::rename_block` below it.
pub mod Sources
pub mod MentionedSources
pub mod SameOutcome
pub mod WithoutNops
pub mod RenamedBlocks
