-- `explain` lists why each block's schedule takes its cycles.
use Rattle.std.specs.Prelude.{◌≡◌, ℕ, Bool, true, false, List, [], ◌∷◌, ◌++◌, map, Option, codes}
use Rattle.std.specs.List.{flat_map}
use Rattle.iloc_ops.specs.declared.file.Block.{Block}
use Rattle.iloc_ops.specs.declared.op.Op.{Op}
use Rattle.iloc_timed.specs.Schedule.{Table}
use Rattle.iloc_timed.specs.declared.latencies.Latencies.{Latencies}
use Rattle.iloc_rules.specs.declared.memory_rule.MemoryRule.{MemoryRule}
use Rattle.iloc_bound.specs.Bound.{least_under}
use Rattle.iloc_explain.specs.CycleLines.{ready_listing}
use Rattle.iloc_explain.specs.Listing.{AreTableRows, IsExplanation, each_after}
use Rattle.iloc_args.specs.Flags.{has}
use Rattle.iloc_args.specs.declared.flag.Flag.TheVariants.{Csv, Cycles}
use Rattle.iloc_args.specs.declared.request.Request.{Request}
use Rattle.iloc_args.specs.Rule.{memory_rule}
use Rattle.iloc_driver.specs.Command.{Command, IsScheduleFor, shared_by}
use Rattle.iloc_driver.specs.Entries.{IsListingAfter}
use Rattle.iloc_listing.specs.Listing.{block_head, count_ending, cycles_of, head_as, opening_as}
use Rattle.iloc_driver.specs.Priorities.{Own, own_of}
use Rattle.iloc_listing.specs.Schedules.{ranks_under}
use Rattle.iloc_listing.specs.declared.text.ScheduleEntry.{ScheduleEntry}

-- `text` is what is said of a schedule of `block` by `rule` that the priorities `prios` rank, with a lower `bound` of
-- its cycles: its ready list if it is asked for, else what explains it
abbrev pub IsSaid : Bool → List ℕ → MemoryRule → Latencies → ℕ → List Op → Table → List ℕ → Type 0
IsSaid true prios rule lat bound block s text = text ≡ ready_listing prios rule lat bound s.ops s.rows
IsSaid false prios rule lat bound block s text = IsExplanation prios rule lat bound block s.ops s.rows s.ops text

-- `said` is what is listed of it without the block: a row of a table for each operation if that is asked for, else one text
abbrev pub AreSaid : (csv by_cycle : Bool) → List ℕ → MemoryRule → Latencies → ℕ → List Op → Table → (said : List (List ℕ)) → Type 0
AreSaid true by_cycle prios rule lat bound block s said = AreTableRows prios rule lat block s.ops s.rows said
AreSaid false by_cycle prios rule lat bound block s said =
    (text : List ℕ) × IsSaid by_cycle prios rule lat bound block s text × (said ≡ text ∷ [])

-- with the block: in a table each row follows `K,NAME`, and else the text follows `block K NAME`
abbrev pub with_block : (csv : Bool) → (k : ℕ) → (name : Option (List ℕ)) → (said : List (List ℕ)) → List ℕ
with_block true k name said = each_after (head_as true k name) said
with_block false k name said = block_head k name ++ codes "\n" ++ each_after [] said

-- The entry of block k: what is listed of its schedule, by its own priorities if it has some, whose cycles are found.
pub record IsExplainEntry (request : Request) (own : Option (List ℕ)) (k : ℕ) (b : Block) (entry : List ℕ) (cycles : ℕ)
    : Type 0 where
  pub schedule : Table
  pub greedy : IsScheduleFor request own b schedule
  pub said : List (List ℕ)
  pub are_said : AreSaid (has request.flags Csv) (has request.flags Cycles)
      (ranks_under (memory_rule request) request.priority request.latencies own schedule.ops) (memory_rule request)
      request.latencies (least_under (memory_rule request) request.latencies b.ops) b.ops schedule said
  pub listed : entry ≡ with_block (has request.flags Csv) k b.name said
  pub counted : cycles ≡ cycles_of request.latencies schedule

-- the header of a table of operations
abbrev pub explain_header : List ℕ
explain_header = codes "block,name,number,cycle,unit,ready,after,priority,earliest,slack,held,operation,issued\n"

-- `text` is the listing of `blocks` for `request`, with their own priorities if there are some
abbrev pub IsExplainListing : Request → Own → List Block → List ℕ → Type 0
IsExplainListing request own blocks text =
    IsListingAfter (λ k. IsExplainEntry request (own_of own k) k) (opening_as (has request.flags Csv) explain_header)
    (count_ending (has request.flags Csv)) blocks text

-- `entries` as they are listed, in a table or not
abbrev pub listing_of_explained : (csv : Bool) → List ScheduleEntry → List ℕ
listing_of_explained csv entries =
    opening_as csv explain_header ++ flat_map (λ e. e.text) entries ++ count_ending csv (map (λ e. e.cycles) entries)

-- of files: workers hand back the entries
abbrev pub explain_files : Command
explain_files =
    shared_by (λ request own k b (e : ScheduleEntry). IsExplainEntry request own k b e.text e.cycles) (λ e. e.cycles)
    (λ request blocks entries. listing_of_explained (has request.flags Csv) entries) IsExplainListing
