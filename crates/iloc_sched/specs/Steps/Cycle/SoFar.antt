-- What holds of a schedule that is being made.
use Rattle.std.specs.Prelude.{ℕ, ◌+◌, ◌≡◌, ◌<◌, ◌≤◌, ◌==◌, ◌||◌, nat_lt, List, length, map, slice_index, slice_index_or, slice_set, count_by, is_none, Option, Some, None, Bool, true, false, if◌then◌else◌}
use Rattle.iloc_meaning.specs.Trace.{op_at}
use Rattle.iloc_ops.specs.declared.op.Op.{Op}
use Rattle.iloc_timed.specs.declared.latencies.Latencies.{Latencies}
use Rattle.iloc_timed.specs.declared.row.Row.{Row}
use Rattle.iloc_timed.specs.Kinds.{kind}
use Rattle.iloc_timed.specs.Latency.{latency}
use Rattle.iloc_timed.specs.Units.{needs_zero, needs_one}
use Rattle.iloc_sched.specs.declared.cycle.Choice.{Choice}
use Rattle.iloc_sched.specs.declared.cycle.calendar.Calendar.{Calendar}
use Rattle.iloc_sched.specs.declared.cycle.class.Class.{Class}
use Rattle.iloc_sched.specs.declared.cycle.plan.Plan.{Plan}
use Rattle.iloc_sched.specs.declared.cycle.waiting.Waiting.{Waiting}
use Rattle.iloc_sched.specs.Steps.Cycle.Calendar.{has, offers, HasRoom}
use Rattle.iloc_rules.specs.Rule.{counts_by}
use Rattle.iloc_rules.specs.Delays.{Counts}
use Rattle.iloc_rules.specs.Steps.Choosing.{IsChosenWhere}
use Rattle.iloc_sched.specs.Steps.Cycle.Classes.{class_of, excludes, place_of}
use Rattle.iloc_sched.specs.Steps.Graph.{Graph, IsGraphWhere}
use Rattle.iloc_sched.specs.Steps.Cycle.Order.{AreRanks}
use Rattle.iloc_sched.specs.Steps.Cycle.Progress.{Progress, Waits, CanIssue, MatchesRows}
use Rattle.iloc_sched.specs.Steps.Views.{graph_of, issued_list, progress_of, IsSized}

-- the class of operation i
abbrev pub class_at : List Op → ℕ → Class
class_at ops i = class_of (kind (op_at ops i))

-- the pairs that count in a plan
abbrev pub counts_of : Plan → Counts
counts_of p = counts_by p.tables.now.rule p.tables.now.ops.items

-- a plan has the kinds, the latencies and the edges of its operations, and by a priority for each their ranks; it knows whether they are few
pub record IsPlan (p : Plan) : Type 0 where
  pub kinds : p.tables.now.kinds.items ≡ map kind p.tables.now.ops.items
  pub own : p.tables.now.own.items ≡ map (latency p.tables.now.latencies) p.tables.now.ops.items
  pub graph : IsGraphWhere (counts_of p) p.tables.now.latencies p.tables.now.ops.items (graph_of p.tables.now.edges)
  pub priorities : length p.priorities.now ≡ length p.tables.now.ops.items
  pub ranked : AreRanks p.priorities.now p.order.now p.ranks.now
  pub short : p.short ≡ nat_lt (length p.tables.now.ops.items) 64

-- the rank of operation j
abbrev pub rank_of : Plan → ℕ → ℕ
rank_of p j = slice_index p.ranks.now j

-- r is the rank of one of the first n operations
abbrev pub IsRanked : Plan → ℕ → ℕ → Type 0
IsRanked p n r = (j : ℕ) × (j < n) × (rank_of p j ≡ r)

-- by class what an operation of it keeps out is known, of the first n operations
pub record KeepsOut (p : Plan) (n : ℕ) (c : Calendar) : Type 0 where
  pub each : (k : Class) (j : ℕ) → j < n → has c (33 + place_of k) (rank_of p j) ≡ excludes k (class_at p.tables.now.ops.items j)
  pub only : (k : Class) (r : ℕ) → has c (33 + place_of k) r ≡ true → IsRanked p n r

-- buckets and what is ready have operations of the plan, and for each class what it keeps out is known; the plan knows whether
-- one word a set is enough
pub record IsCalendar (p : Plan) (c : Calendar) : Type 0 where
  pub room : HasRoom c (length p.tables.now.ops.items)
  pub ranked : (s r : ℕ) → s ≤ 32 → has c s r ≡ true → IsRanked p (length p.tables.now.ops.items) r
  pub kept : KeepsOut p (length p.tables.now.ops.items) c
  pub short : p.short ≡ (c.blocks == 0)

-- what is ready is just what can be issued
pub record IsQueued (ranks : List ℕ) (graph : Graph) (w : Progress) (f : ℕ) (c : Calendar) : Type 0 where
  pub ready : (j : ℕ) → CanIssue graph w f j → has c 32 (slice_index ranks j) ≡ true
  pub only : (j : ℕ) → j < graph.ops → has c 32 (slice_index ranks j) ≡ true → CanIssue graph w f j

-- what holds before cycle f, once what becomes ready before it is ready
pub record IsUnderWay (p : Plan) (w : Waiting) (f : ℕ) : Type 0 where
  pub sized : IsSized p.tables.now.edges w
  pub calendar : IsCalendar p w.calendar
  pub waits : Waits (graph_of p.tables.now.edges) (progress_of p.ranks.now w) f 0 None
  pub queued : IsQueued p.ranks.now (graph_of p.tables.now.edges) (progress_of p.ranks.now w) f w.calendar

-- what holds between two cycles
pub record IsSoFar (p : Plan) (w : Waiting) (rows : List Row) : Type 0 where
  pub under_way : IsUnderWay p w (length rows)
  pub matches : MatchesRows (length p.tables.now.ops.items) rows (progress_of p.ranks.now w).issued
  pub each : IsChosenWhere (counts_of p) p.priorities.now p.tables.now.latencies p.tables.now.ops.items rows

-- what `took` says of the rows of a plan's operations
abbrev pub took_of : {T : Type 0} → (Latencies → List Op → T → List Row → T → Type 0) → Plan → T → List Row → T → Type 0
took_of took p = took p.tables.now.latencies p.tables.now.ops.items

-- From `start` to `now` the rows so far were taken, those of the cycles before `cycle`.
pub record HasTaken {T : Type 0} (took : Latencies → List Op → T → List Row → T → Type 0) (p : Plan) (w : Waiting) (start now : T) (cycle : ℕ) (rows : List Row) : Type 0 where
  pub so_far : IsSoFar p w rows
  pub taken : took_of took p start rows now
  pub count : length rows ≡ cycle

-- operation j can be issued beside an operation of a class
abbrev pub IsOpen : Plan → Waiting → Class → ℕ → Type 0
IsOpen p w beside j = (j < length p.tables.now.ops.items) × (offers w.calendar beside (rank_of p j) ≡ true)

-- of the operations that can be issued beside one of a class that of the lowest rank, with its kind
abbrev pub IsBest : Plan → Waiting → Class → Option Choice → Type 0
IsBest p w beside None = (j : ℕ) → IsOpen p w beside j → ⊥
IsBest p w beside (Some choice) =
    IsOpen p w beside choice.number × (kind (op_at p.tables.now.ops.items choice.number) ≡ choice.kind)
    × ((j : ℕ) → IsOpen p w beside j → rank_of p choice.number ≤ rank_of p j)

-- the choice was taken, and issued at cycle c
pub record Issues (p : Plan) (w w' : Waiting) (c : ℕ) (choice : Choice) : Type 0 where
  pub under_way : IsUnderWay p w' (c + 1)
  pub there : choice.number < length (issued_list w)
  pub waiting : slice_index_or (issued_list w) choice.number None ≡ None
  pub issued : issued_list w' ≡ slice_set (issued_list w) choice.number (Some c)
  pub ready : (j : ℕ) → j < length p.tables.now.ops.items → (j ≡ choice.number → ⊥)
      → has w'.calendar 32 (rank_of p j) ≡ has w.calendar 32 (rank_of p j)

abbrev pub IssuesAny : Plan → Waiting → Waiting → ℕ → Option Choice → Type 0
IssuesAny p w w' c None = IsUnderWay p w' (c + 1) × (issued_list w' ≡ issued_list w)
IssuesAny p w w' c (Some choice) = Issues p w w' c choice

-- whether the choice runs on unit 0 only
abbrev pub needs_zero_choice : Option Choice → Bool
needs_zero_choice None = false
needs_zero_choice (Some choice) = needs_zero choice.kind

-- the number of a choice
abbrev pub number_of : Option Choice → Option ℕ
number_of None = None
number_of (Some choice) = Some choice.number

-- a, and what stands beside it, on their units
abbrev pub row_with : Choice → Option Choice → Row
row_with a b =
    if needs_one a.kind || needs_zero_choice b
    then record { zero = number_of b; one = Some a.number } else record { zero = Some a.number; one = number_of b }

-- in how many slots a choice stands with what is beside it
abbrev pub slot_count : Option Choice → ℕ
slot_count None = 1
slot_count (Some choice) = 2

-- how many wait
abbrev pub waiting_count : Waiting → ℕ
waiting_count w = count_by is_none (issued_list w)
