-- `optimize` lists for each block the best schedule that is found, and a bound on the cycles of every one.
use Rattle.std.specs.Prelude.{◌≡◌, ◌++◌, ℕ, List, Some}
use Rattle.iloc_ops.specs.declared.file.Block.{Block}
use Rattle.iloc_timed.specs.declared.latencies.Latencies.{Latencies}
use Rattle.iloc_rules.specs.declared.memory_rule.MemoryRule.{MemoryRule}
use Rattle.iloc_optimum.specs.declared.optimizer.Optimum.{Optimum}
use Rattle.iloc_optimum.specs.Optimum.{IsOptimumOf}
use Rattle.iloc_listing.specs.Listing.{bound_comment, cycles_of, listing_of_entries, schedule_entry, total_of_all}
use Rattle.iloc_args.specs.declared.request.Request.{Request}
use Rattle.iloc_args.specs.Rule.{memory_rule}
use Rattle.iloc_driver.specs.Command.{Command, shared_by}
use Rattle.iloc_driver.specs.Priorities.{Own}
use Rattle.iloc_driver.specs.Entries.{IsListingOf}
use Rattle.iloc_listing.specs.declared.text.ScheduleEntry.{ScheduleEntry}

-- The entry of block k: some schedule, lawful by a rule of memory, that has the block's outcome on every memory and takes at most
-- as many cycles as each greedy one, which are found, and a number of cycles that every schedule takes that is lawful by it.
pub record IsOptimizeEntry (rule : MemoryRule) (lat : Latencies) (k : ℕ) (b : Block) (entry : List ℕ) (cycles : ℕ) : Type 0 where
  pub best : Optimum
  pub found : IsOptimumOf rule lat b.ops best
  pub listed : entry ≡ schedule_entry lat k b.name best.schedule ++ bound_comment (Some best.bound) cycles
  pub counted : cycles ≡ cycles_of lat best.schedule

-- `text` is the listing of `blocks` for `request`
abbrev pub IsOptimizeListing : Request → Own → List Block → List ℕ → Type 0
IsOptimizeListing request own blocks text =
    IsListingOf (IsOptimizeEntry (memory_rule request) request.latencies) total_of_all blocks text

-- workers hand back the entries
abbrev pub optimize_command : Command
optimize_command =
    shared_by
    (λ request own k b (e : ScheduleEntry). IsOptimizeEntry (memory_rule request) request.latencies k b e.text e.cycles)
    (λ e. e.cycles) (λ request blocks entries. listing_of_entries entries) IsOptimizeListing
