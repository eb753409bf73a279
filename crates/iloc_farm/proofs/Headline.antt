-- The headline, from what is known of a board whose jobs are all done.
use Rattle.iloc_farm.proofs.Common.{◌≡◌, ℕ, ◌+◌, ◌++◌, List, length, slice_get, Some, None, Ok, Err, Option, Result, ap, ◌∙◌, subst, Block, Op, Table, Latencies, has, memory_rule, Csv, Request, IsDoneBy, ReceiptView, Task, cycles_of, ranks_under, schedule_entry, IsGreedyAs, IsScheduleOf, Own, Held, Finding, command_of}
use Rattle.std.specs.Prelude.{IfOk, IfSome, MatchOption}
use Rattle.std.specs.Option.{IsSomeAnd}
use Rattle.std.specs.Io.KnownBytes.{Appends}
use Rattle.iloc_rules.specs.declared.heuristic.Heuristic.{Heuristic}
use Rattle.iloc_rules.specs.declared.memory_rule.MemoryRule.TheVariants.{Book}
use Rattle.iloc_args.specs.declared.request.Task.TheVariants as task
use Rattle.iloc_listing.specs.Listing.{bound_comment, listing_of_counts, listing_of_entries}
use Rattle.iloc_listing.specs.Schedules.{IsCountUnder}
use Rattle.iloc_listing.specs.declared.text.ScheduleEntry.{ScheduleEntry}
use Rattle.iloc_driver.specs.Entries.{OfBlock}
use Rattle.iloc_driver.specs.Run.{ListsFrom}
use Rattle.iloc_driver.specs.Work.{HasReceipt, ListsFarmed, by_own}
use Rattle.iloc_driver.specs.declared.fault.RunFault.{RunFault}
use Rattle.iloc_block_commands.specs.Optimize.{IsOptimizeEntry}
use Rattle.iloc_block_commands.specs.Schedule.{IsScheduleEntry}
use Rattle.iloc_board.proofs.Handed.{less_said}
use Rattle.iloc_farm.proofs.Kept.{keeps}
use Rattle.iloc_farm.specs.Commands.{IsReceiptFor}
use Rattle.iloc_farm.specs.Headline.{Headline, KeepsItsBlock}
use Rattle.iloc_farm.specs.Theorem.Farmed.{AreCyclesOf, HasHeadline, IsBoundedOf, IsEntryOf, IsFarmed, IsOfSchedule}
use Rattle.iloc_farm.specs.declared.receipt.CommandReceipt.{CommandReceipt}
use Rattle.iloc_farm.specs.declared.receipt.CommandReceipt.TheVariants.{Entries, Cycles}

greedy_keeps : (heuristic : Heuristic) (lat : Latencies) (o : Option Block) (s : Table)
    → IfSome o (λ (b : Block). IsGreedyAs heuristic lat b.ops s) → IfSome o (λ (b : Block). KeepsItsBlock lat b s)
greedy_keeps heuristic lat None s fits = tt
greedy_keeps heuristic lat (Some b) s fits = keeps Book lat b s fits.lawful

pub headline : (heuristic : Heuristic) (lat : Latencies) (blocks : List Block) (receipt : ReceiptView Table)
    → IsDoneBy (length blocks) (IsScheduleOf heuristic lat blocks) (cycles_of lat) receipt
    → Headline (λ k b s. KeepsItsBlock lat b s) (cycles_of lat) blocks receipt
headline heuristic lat blocks receipt done =
    less_said (length blocks) (IsScheduleOf heuristic lat blocks)
    (λ i s. IfSome (slice_get blocks i) (λ (b : Block). KeepsItsBlock lat b s)) (cycles_of lat)
    (λ i s fits. greedy_keeps heuristic lat (slice_get blocks i) s fits) receipt done

-- what holds of the answer for a block, holds of the answer if there is a block
at_block : {A : Type 0} (P Q : Block → A → Type 0) → ((b : Block) (x : A) → P b x → Q b x) → (o : Option Block) (x : A)
    → MatchOption o ⊥ (λ (b : Block). P b x) → IfSome o (λ (b : Block). Q b x)
at_block P Q gives None x fits = absurd fits
at_block P Q gives (Some b) x fits = gives b x fits

module _ (request : Request) (ro rn wo wn : Option (List ℕ)) (text : List ℕ) (written : Appends wo wn text) where
  -- what workers listed is farmed, if each answer is of a schedule
  farmed : {A : Type 0} (as_receipt : ReceiptView A → CommandReceipt) (lists : Option (List ℕ) → ℕ → Block → A → Type 0)
      (cost : A → ℕ) (listing : List Block → List A → List ℕ) (shows : Latencies → ℕ → Block → Table → A → Type 0)
      → ((own : Option (List ℕ)) (k : ℕ) (b : Block) (x : A) → lists own k b x
      → IsOfSchedule (memory_rule request) request.latencies (shows request.latencies) k b x)
      → (is_listing : Own → List Block → List ℕ → Type 0) (are_own : List Block → Own → Type 0) (receipt : Option CommandReceipt)
      → IsSomeAnd receipt (λ (r : CommandReceipt). (kept : ReceiptView A) × (r ≡ as_receipt kept)
      × ListsFarmed lists cost listing is_listing are_own request.workers ro rn text kept)
      → IsFarmed request ro rn wo wn receipt as_receipt shows cost listing
  farmed as_receipt lists cost listing shows gives is_listing are_own None got = absurd got
  farmed {A} as_receipt lists cost listing shows gives is_listing are_own (Some r) (kept, is, got) =
      let blocks : List Block = got.read.blocks in
      let P : ℕ → Block → A → Type 0 = by_own lists got.read.own in
      let Q : ℕ → Block → A → Type 0 = IsOfSchedule (memory_rule request) request.latencies (shows request.latencies) in
      record {
        kept = kept;
        answered = ap (λ (v : CommandReceipt). Some v) is;
        made = got.farmed.made;
        blocks = blocks;
        read = record { input = got.read.input; read = got.read.read; denoted = got.read.denoted };
        headline = less_said (length blocks) (OfBlock P blocks)
            (λ i x. IfSome (slice_get blocks i) (λ (b : Block). Q (i + 1) b x)) cost
            (λ i x fits. at_block (P (i + 1)) (Q (i + 1)) (λ b y. gives _ (i + 1) b y) (slice_get blocks i) x fits) kept
            got.farmed.done;
        written = subst (Appends wo wn) got.made written;
      }

  of_schedule : (own : Option (List ℕ)) (k : ℕ) (b : Block) (e : ScheduleEntry) → IsScheduleEntry request own k b e.text e.cycles
      → IsOfSchedule (memory_rule request) request.latencies (IsEntryOf request.latencies) k b e
  of_schedule own k b e is = record {
    schedule = is.schedule;
    keeps = keeps (memory_rule request) request.latencies b is.schedule is.greedy.greedy.lawful;
    lawful = is.greedy.greedy.lawful;
    shown = (is.listed, is.counted);
  }

  of_count : (prios : List Op → List ℕ) (k : ℕ) (b : Block) (cycles : ℕ)
      → IsCountUnder (memory_rule request) prios request.latencies b cycles
      → IsOfSchedule (memory_rule request) request.latencies (AreCyclesOf request.latencies) k b cycles
  of_count prios k b cycles is = record {
    schedule = is.schedule;
    keeps = keeps (memory_rule request) request.latencies b is.schedule is.greedy.greedy.lawful;
    lawful = is.greedy.greedy.lawful;
    shown = is.counted;
  }

  of_optimum : (own : Option (List ℕ)) (k : ℕ) (b : Block) (e : ScheduleEntry)
      → IsOptimizeEntry (memory_rule request) request.latencies k b e.text e.cycles
      → IsOfSchedule (memory_rule request) request.latencies (IsBoundedOf (memory_rule request) request.latencies) k b e
  of_optimum own k b e is = record {
    schedule = is.best.schedule;
    keeps = keeps (memory_rule request) request.latencies b is.best.schedule is.found.lawful;
    lawful = is.found.lawful;
    shown = record {
      bound = is.best.bound;
      holds = is.found.bound;
      listed = is.listed ∙ ap (λ n. schedule_entry request.latencies k b.name is.best.schedule ++ bound_comment (Some is.best.bound) n)
          is.counted;
      counted = is.counted;
    };
  }

pub run_has_headline : (held : Held) (request : Request) (ro rn wo wn : Option (List ℕ))
    (result : Result (Finding × Option CommandReceipt) RunFault)
    → IfOk result (λ done. (text : List ℕ) × ListsFrom command_of held request ro rn done.0 text
    × HasReceipt (command_of request.task) (IsReceiptFor request.task) held request ro rn text done.1 × Appends wo wn text)
    → IfOk result (λ done. HasHeadline request ro rn wo wn done.1)
run_has_headline held request ro rn wo wn (Ok done) (text, lists, has_receipt, written) =
    let For : Task → Type 0 =
    λ t. HasReceipt (command_of t) (IsReceiptFor t) held request ro rn text done.1 in
    record {
      schedule = λ is. farmed request ro rn wo wn text written Entries _ (λ e. e.cycles) (λ blocks. listing_of_entries) IsEntryOf
          (of_schedule request ro rn wo wn text written) _ _ done.1 (subst For is has_receipt);
      counts = λ is. farmed request ro rn wo wn text written Cycles _ (λ cycles. cycles) (listing_of_counts (has request.flags Csv))
          AreCyclesOf (λ own. of_count request ro rn wo wn text written
          (ranks_under (memory_rule request) request.priority request.latencies own)) _ _ done.1 (subst For is has_receipt);
      optimize = λ is. farmed request ro rn wo wn text written Entries _ (λ e. e.cycles) (λ blocks. listing_of_entries)
          (IsBoundedOf (memory_rule request)) (of_optimum request ro rn wo wn text written) _ _ done.1 (subst For is has_receipt);
    }
run_has_headline held request ro rn wo wn (Err fault) if_ok = tt
