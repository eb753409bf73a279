-- What `compare` lists: how many cycles schedules take that keep their blocks.
use Rattle.std.specs.Prelude.{◌≡◌, ℕ, ◌++◌, Bool, is_some, List, Option, IfSome}
use Rattle.std.specs.List.{AllZip}
use Rattle.std.specs.Io.KnownBytes.{Appends}
use Rattle.iloc_ops.specs.declared.file.Block.{Block}
use Rattle.iloc_timed.specs.declared.latencies.Latencies.{Latencies}
use Rattle.iloc_timed.specs.Schedule.{Table}
use Rattle.iloc_rules.specs.declared.heuristic.Heuristic.{Heuristic}
use Rattle.iloc_rules.specs.declared.memory_rule.MemoryRule.{MemoryRule}
use Rattle.iloc_rules.specs.declared.sought.Sought.{Sought}
use Rattle.iloc_optimum.specs.Bound.{IsBound}
use Rattle.iloc_args.specs.Asked.{Asked}
use Rattle.iloc_args.specs.declared.flag.Flag.TheVariants.{Csv}
use Rattle.iloc_listing.specs.Listing.{cycles_of, entries, opening_as}
use Rattle.iloc_block_commands.specs.Compare.{compare_ending, compare_header, compare_line, cycles_by}
use Rattle.iloc_block_commands.specs.declared.compare.ComparedCycles.{ComparedCycles}
use Rattle.iloc_farm.specs.Headline.{KeepsItsBlock}
use Rattle.iloc_farm.specs.Reads.{ReadsBlocks}
use Rattle.iloc_farm.specs.Theorem.Options.{AreLatencies, rule_asked}
use Rattle.iloc_farm.specs.Theorem.Kept.{IsLawfulFor}

-- a schedule takes so many cycles that keeps the block and is lawful for it by `rule`
pub record Takes (rule : MemoryRule) (lat : Latencies) (b : Block) (cycles : ℕ) : Type 0 where
  pub schedule : Table
  pub keeps : KeepsItsBlock lat b schedule
  pub lawful : IsLawfulFor rule lat b schedule
  pub counted : cycles ≡ cycles_of lat schedule

-- What is compared of a block: some such schedule takes the cycles of each column, those of the block's own priorities and the
-- best that a search finds. No lawful one takes fewer cycles than `least`, or than the bound of the search.
pub record Compares (rule : MemoryRule) (lat : Latencies) (b : Block) (c : ComparedCycles) : Type 0 where
  pub each : (heuristic : Heuristic) → Takes rule lat b (cycles_by heuristic c)
  pub own : IfSome c.own (Takes rule lat b)
  pub best : IfSome c.sought (λ (s : Sought). Takes rule lat b s.best)
  pub least : IsBound rule lat b.ops c.least
  pub bound : IfSome c.sought (λ (s : Sought). IsBound rule lat b.ops s.bound)

-- the listing of what is compared, by whether it is a table, by the nodes that a search has, and by whether priorities are named
abbrev pub compared_listing : (csv : Bool) → (nodes : Option ℕ) → (own : Bool) → List Block → List ComparedCycles → List ℕ
compared_listing csv nodes own blocks compared =
    opening_as csv (compare_header nodes own) ++ entries (compare_line csv) 1 blocks compared
    ++ compare_ending csv nodes own compared

-- Blocks were read, and what was written is what is compared of each, with the latencies and by the rule of memory that are asked
-- for.
pub record ComparesEachBlock (asked : Asked) (read_old read_new written_old written_new : Option (List ℕ)) : Type 0 where
  pub blocks : List Block
  pub read : ReadsBlocks read_old read_new blocks
  pub latencies : Latencies
  pub are_asked : AreLatencies asked latencies
  pub compared : List ComparedCycles
  pub compare : AllZip (Compares (rule_asked asked.flags) latencies) blocks compared
  pub written : Appends written_old written_new
      (compared_listing (asked.flags Csv) asked.nodes (is_some asked.priorities_file) blocks compared)
