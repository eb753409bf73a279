-- What `run` lists: what blocks emit on the memory of the words.
use Rattle.std.specs.Prelude.{ℕ, List, Option}
use Rattle.std.specs.List.{AllZip}
use Rattle.std.specs.Io.KnownBytes.{Appends}
use Rattle.iloc_ops.specs.declared.file.Block.{Block}
use Rattle.iloc_meaning.specs.Outcome.{outcome}
use Rattle.iloc_args.specs.Asked.{Asked}
use Rattle.iloc_args.specs.declared.flag.Flag.TheVariants.{Where}
use Rattle.iloc_listing.specs.Listing.{entries}
use Rattle.iloc_block_commands.specs.Run.{IsShownOf}
use Rattle.iloc_farm.specs.Reads.{ReadsBlocks}
use Rattle.iloc_farm.specs.Theorem.Options.{memory_asked}
use Rattle.iloc_farm.specs.Theorem.Listed.{headed}

-- Blocks were read, and what was written is what is shown of the outcome of each on the memory that is asked for: the words that it
-- emits, or that it faults, with `--where` also at which place.
pub record ShowsEachBlock (asked : Asked) (read_old read_new written_old written_new : Option (List ℕ)) : Type 0 where
  pub blocks : List Block
  pub read : ReadsBlocks read_old read_new blocks
  pub shown : List (List ℕ)
  pub show : AllZip (λ (b : Block). IsShownOf (asked.flags Where) b.ops (memory_asked asked) (outcome b.ops (memory_asked asked)))
      blocks shown
  pub written : Appends written_old written_new (entries headed 1 blocks shown)
