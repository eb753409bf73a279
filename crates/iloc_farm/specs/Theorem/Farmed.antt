-- What workers handed back for blocks that were read.
use Rattle.std.specs.Prelude.{◌≡◌, ℕ, List, Option, Some}
use Rattle.std.specs.Io.KnownBytes.{Appends}
use Rattle.iloc_ops.specs.declared.file.Block.{Block}
use Rattle.iloc_timed.specs.declared.latencies.Latencies.{Latencies}
use Rattle.iloc_timed.specs.Schedule.{Table}
use Rattle.iloc_rules.specs.declared.memory_rule.MemoryRule.{MemoryRule}
use Rattle.iloc_optimum.specs.Bound.{IsBound}
use Rattle.iloc_board.specs.Finished.{ReceiptView}
use Rattle.iloc_args.specs.Flags.{has}
use Rattle.iloc_args.specs.Rule.{memory_rule}
use Rattle.iloc_args.specs.declared.flag.Flag.TheVariants.{Csv}
use Rattle.iloc_args.specs.declared.request.Request.{Request}
use Rattle.iloc_args.specs.declared.request.Task.TheVariants as task
use Rattle.iloc_listing.specs.Listing.{cycles_of, listing_of_counts, listing_of_entries, schedule_entry}
use Rattle.iloc_listing.specs.declared.text.ScheduleEntry.{ScheduleEntry}
use Rattle.iloc_farm.specs.Headline.{Headline, KeepsItsBlock}
use Rattle.iloc_farm.specs.Reads.{ReadsBlocks}
use Rattle.iloc_farm.specs.Theorem.Kept.{IsLawfulFor}
use Rattle.iloc_farm.specs.Theorem.Listed.{bounded_entry}
use Rattle.iloc_farm.specs.declared.receipt.CommandReceipt.{CommandReceipt}
use Rattle.iloc_farm.specs.declared.receipt.CommandReceipt.TheVariants.{Entries, Cycles}

-- `x`, which was handed back for block k, is what `shows` says of a schedule that keeps the block, and that is lawful for it by
-- this rule of memory.
pub record IsOfSchedule {A : Type 0} (rule : MemoryRule) (lat : Latencies) (shows : (k : ℕ) → Block → Table → A → Type 0) (k : ℕ)
    (b : Block) (x : A) : Type 0 where
  pub schedule : Table
  pub keeps : KeepsItsBlock lat b schedule
  pub lawful : IsLawfulFor rule lat b schedule
  pub shown : shows k b schedule x

-- for `schedule` its rows and cycles, as an entry
abbrev pub IsEntryOf : Latencies → (k : ℕ) → Block → Table → ScheduleEntry → Type 0
IsEntryOf lat k b s e = (e.text ≡ schedule_entry lat k b.name s) × (e.cycles ≡ cycles_of lat s)

-- for `counts` its cycles
abbrev pub AreCyclesOf : Latencies → (k : ℕ) → Block → Table → ℕ → Type 0
AreCyclesOf lat k b s cycles = cycles ≡ cycles_of lat s

-- For `optimize` an entry with a bound: no schedule of the block that is lawful by `rule` takes fewer cycles.
pub record IsBoundedOf (rule : MemoryRule) (lat : Latencies) (k : ℕ) (b : Block) (s : Table) (e : ScheduleEntry) : Type 0 where
  pub bound : ℕ
  pub holds : IsBound rule lat b.ops bound
  pub listed : e.text ≡ bounded_entry lat k b.name (s, bound)
  pub counted : e.cycles ≡ cycles_of lat s

module _ (request : Request) (read_old read_new written_old written_new : Option (List ℕ)) (receipt : Option CommandReceipt) where
  -- There is a receipt, of as many workers as the request has. What they did with the blocks that were read is one
  -- legal history, in which each answer that the receipt keeps was handed back for its block, and is of a schedule of
  -- it. Just the listing of the answers was written.
  pub record IsFarmed {A : Type 0} (as_receipt : ReceiptView A → CommandReceipt)
      (shows : Latencies → (k : ℕ) → Block → Table → A → Type 0) (cost : A → ℕ) (listing : List Block → List A → List ℕ)
      : Type 0 where
    pub kept : ReceiptView A
    pub answered : receipt ≡ Some (as_receipt kept)
    pub made : kept.made ≡ request.workers
    pub blocks : List Block
    pub read : ReadsBlocks read_old read_new blocks
    pub headline : Headline (IsOfSchedule (memory_rule request) request.latencies (shows request.latencies)) cost blocks kept
    pub written : Appends written_old written_new (listing blocks kept.answers)

  -- So it is where a run of the request ends well, for each of the tasks below.
  pub record HasHeadline : Type 0 where
    pub schedule : request.task ≡ task.Schedule
        → IsFarmed Entries IsEntryOf (λ e. e.cycles) (λ blocks. listing_of_entries)
    pub counts : request.task ≡ task.Counts
        → IsFarmed Cycles AreCyclesOf (λ cycles. cycles) (listing_of_counts (has request.flags Csv))
    pub optimize : request.task ≡ task.Optimize
        → IsFarmed Entries (IsBoundedOf (memory_rule request)) (λ e. e.cycles) (λ blocks. listing_of_entries)
