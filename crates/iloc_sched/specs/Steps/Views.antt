-- The scheduler's tables as functions of numbers.
use Rattle.std.specs.Prelude.{ℕ, Bool, ◌≡◌, List, length, map, slice_index, slice_index_or, Option, None}
use Rattle.iloc_sched.specs.declared.edges.Edge.{Edge}
use Rattle.iloc_sched.specs.declared.edges.Edges.{Edges}
use Rattle.iloc_sched.specs.declared.cycle.waiting.OperationState.{OperationState}
use Rattle.iloc_sched.specs.declared.cycle.waiting.Waiting.{Waiting}
use Rattle.iloc_sched.specs.Steps.Graph.{Graph}
use Rattle.iloc_sched.specs.Steps.Cycle.Progress.{Progress}
use Rattle.iloc_sched.specs.Steps.Cycle.Calendar.{has}
use Rattle.iloc_sched.specs.declared.cycle.calendar.Calendar.{Calendar}

abbrev pub no_edge : Edge
no_edge = record { from = 0; to = 0; delay = 0; previous = None }

abbrev pub edge_at : Edges → ℕ → Edge
edge_at e x = slice_index_or e.edges.items x no_edge

abbrev pub graph_of : Edges → Graph
graph_of e = record {
  ops = length e.heads.items;
  count = length e.edges.items;
  from = λ x. (edge_at e x).from;
  to = λ x. (edge_at e x).to;
  delay = λ x. (edge_at e x).delay;
  start = λ j. slice_index e.starts.items j;
  head = λ i. slice_index_or e.heads.items i None;
  previous = λ x. (edge_at e x).previous;
}

-- no operation and no edge
pub record IsEmptied (e : Edges) : Type 0 where
  pub edges : length e.edges.items ≡ 0
  pub starts : length e.starts.items ≡ 0
  pub heads : length e.heads.items ≡ 0

abbrev pub unmet_in : List OperationState → List ℕ
unmet_in states = map (λ (s : OperationState). s.unmet) states

abbrev pub earliest_in : List OperationState → List ℕ
earliest_in states = map (λ (s : OperationState). s.earliest) states

-- the progress with cycles of issue `issued`, with `states`, and with the operations in each `bucket`
abbrev pub progress_with : List (Option ℕ) → List OperationState → (ℕ → ℕ → Bool) → Progress
progress_with issued states bucket = record {
  issued = λ j. slice_index_or issued j None;
  unmet = λ j. slice_index (unmet_in states) j;
  earliest = λ j. slice_index (earliest_in states) j;
  bucket = bucket;
}

abbrev pub issued_list : Waiting → List (Option ℕ)
issued_list w = w.issued.cycles

abbrev pub unmet_list : Waiting → List ℕ
unmet_list w = unmet_in w.states.items

abbrev pub earliest_list : Waiting → List ℕ
earliest_list w = earliest_in w.states.items

-- whether an operation is in a bucket, by its rank
abbrev pub bucket_of : List ℕ → Calendar → ℕ → ℕ → Bool
bucket_of ranks c b j = has c b (slice_index ranks j)

abbrev pub progress_of : List ℕ → Waiting → Progress
progress_of ranks w = progress_with (issued_list w) w.states.items (bucket_of ranks w.calendar)

-- there is a state for each operation, and it is known of each when it was issued
abbrev pub IsSized : Edges → Waiting → Type 0
IsSized e w = (length w.states.items ≡ length e.heads.items) × (length (issued_list w) ≡ length e.heads.items)
