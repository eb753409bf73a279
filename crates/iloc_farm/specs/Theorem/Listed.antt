-- What commands list of schedules.
use Rattle.std.specs.Prelude.{◌≡◌, ℕ, ◌++◌, ℤ, Bool, List, map, Option, Some, codes}
use Rattle.std.specs.List.{AllZip, zip}
use Rattle.iloc_ops.specs.declared.file.Block.{Block}
use Rattle.iloc_meaning.specs.Outcome.{outcome}
use Rattle.iloc_timed.specs.declared.latencies.Latencies.{Latencies}
use Rattle.iloc_timed.specs.Schedule.{Table}
use Rattle.iloc_rules.specs.declared.memory_rule.MemoryRule.{MemoryRule}
use Rattle.iloc_optimum.specs.Bound.{IsBound}
use Rattle.iloc_listing.specs.Listing.{block_head, bound_comment, count_ending, cycles_of, entries, listing_of_counts, opening_as, outcomes_listing, schedule_entry, schedules_listing, total_line}
use Rattle.iloc_view_commands.specs.Explain.{AreSaid, explain_header, with_block}

-- `schedule` lists their rows and cycles
abbrev pub ListsSchedules : Latencies → List Block → List Table → (text : List ℕ) → Type 0
ListsSchedules lat blocks schedules text = text ≡ schedules_listing lat blocks schedules

-- `counts` lists their cycles
abbrev pub ListsCounts : (csv : Bool) → Latencies → List Block → List Table → (text : List ℕ) → Type 0
ListsCounts csv lat blocks schedules text = text ≡ listing_of_counts csv blocks (map (cycles_of lat) schedules)

-- `simulate` lists what their blocks emit on this memory
abbrev pub ListsOutcomes : (memory : List ℤ) → Latencies → List Block → List Table → (text : List ℕ) → Type 0
ListsOutcomes memory lat blocks schedules text =
    text ≡ outcomes_listing blocks (map (λ (b : Block). outcome b.ops memory) blocks)

-- a schedule with a bound: its rows and cycles, and a comment that says `optimal` where the cycles are the bound
abbrev pub bounded_entry : Latencies → ℕ → (name : Option (List ℕ)) → Table × ℕ → List ℕ
bounded_entry lat k name best = schedule_entry lat k name best.0 ++ bound_comment (Some best.1) (cycles_of lat best.0)

-- `optimize` lists each with a bound: no schedule of its block that is lawful by `rule` takes fewer cycles.
pub record ListsBounds (rule : MemoryRule) (lat : Latencies) (blocks : List Block) (schedules : List Table) (text : List ℕ)
    : Type 0 where
  pub bounds : List ℕ
  pub hold : AllZip (λ (b : Block) n. IsBound rule lat b.ops n) blocks bounds
  pub listed : text ≡ entries (bounded_entry lat) 1 blocks (zip schedules bounds) ++ total_line lat schedules

-- a text after the number and the name of its block
abbrev pub headed : ℕ → (name : Option (List ℕ)) → List ℕ → List ℕ
headed k name text = block_head k name ++ codes "\n" ++ text

-- What `explain` says of a schedule, ranked by some priorities: why it takes its cycles, with `--cycles` what is ready in
-- each, or with `--csv` a row of a table for each operation. No schedule of its block that is lawful by `rule` takes fewer cycles than the bound that is said.
pub record Explains (csv by_cycle : Bool) (rule : MemoryRule) (lat : Latencies) (of : Block × Table) (said : List (List ℕ)) : Type 0 where
  pub priorities : List ℕ
  pub bound : ℕ
  pub holds : IsBound rule lat of.0.ops bound
  pub are_said : AreSaid csv by_cycle priorities rule lat bound of.0.ops of.1 said

-- `explain` says this of each
pub record ListsExplained (csv by_cycle : Bool) (rule : MemoryRule) (lat : Latencies) (blocks : List Block) (schedules : List Table)
    (text : List ℕ) : Type 0 where
  pub said : List (List (List ℕ))
  pub explain : AllZip (Explains csv by_cycle rule lat) (zip blocks schedules) said
  pub listed : text ≡
      opening_as csv explain_header ++ entries (with_block csv) 1 blocks said ++ count_ending csv (map (cycles_of lat) schedules)
