-- What holds while longest chains are found: of the priorities, from the last operation on, of the starts, from the first,
-- and of the tails.
use Rattle.std.specs.Prelude.{ℕ, ◌+◌, ◌≡◌, ◌<◌, ◌≤◌, List, length, slice_index}
use Rattle.iloc_ops.specs.declared.op.Op.{Op}
use Rattle.iloc_meaning.specs.Trace.{op_at}
use Rattle.iloc_timed.specs.declared.latencies.Latencies.{Latencies}
use Rattle.iloc_timed.specs.Latency.{latency}
use Rattle.iloc_rules.specs.Delays.{Counts}
use Rattle.iloc_rules.specs.Priority.{priority_where}
use Rattle.iloc_rules.specs.Starts.{start_where}
use Rattle.iloc_sched.specs.Steps.Graph.{Graph}

-- The numbers `found` while edges raise them, each edge the number at its `place` by the one at its `other` end: an
-- operation from `j` on has its `value`, an earlier one at most its `chain`, and each edge that is `Done` is kept.
pub record IsRaised (count : ℕ) (base chain value place other delay : ℕ → ℕ) (Done : ℕ → Type 0) (found : List ℕ) (j : ℕ) : Type 0 where
  pub size : length found ≡ count
  pub own : (i : ℕ) → i < count → base i ≤ slice_index found i
  pub upper : (i : ℕ) → i < j → i < count → slice_index found i ≤ chain i
  pub done : (i : ℕ) → j ≤ i → i < count → slice_index found i ≡ value i
  pub over : (y : ℕ) → Done y → delay y + slice_index found (other y) ≤ slice_index found (place y)

-- `y` is an edge at place `x` or after it; below, one before it
abbrev pub IsFrom : Graph → ℕ → ℕ → Type 0
IsFrom graph x y = (x ≤ y) × (y < graph.count)

abbrev pub IsBefore : Graph → ℕ → ℕ → Type 0
IsBefore graph x y = (y < x) × (y < graph.count)

-- the numbers while the edges from x on have raised them along the chains out of operations
abbrev pub AreRaised : Latencies → List Op → Graph → (ℕ → ℕ) → (ℕ → ℕ) → List ℕ → ℕ → ℕ → Type 0
AreRaised lat ops graph chain value found j x =
    IsRaised (length ops) (λ i. latency lat (op_at ops i)) chain value graph.from graph.to graph.delay (IsFrom graph x) found j

-- `found` has the priorities by `counts`, while edges are visited from the last: the edges from `x` on are done
abbrev pub ArePrioritiesFrom : Counts → Latencies → List Op → Graph → List ℕ → ℕ → Type 0
ArePrioritiesFrom counts lat ops graph found x =
    AreRaised lat ops graph (priority_where counts lat ops) (priority_where counts lat ops) found (length ops) x

-- `found` has the starts while edges are visited from the first: the edges before `x` are done
abbrev pub AreStartsBefore : Counts → Latencies → List Op → Graph → List ℕ → ℕ → Type 0
AreStartsBefore counts lat ops graph found x =
    IsRaised (length ops) (λ j. 0) (start_where counts lat ops) (start_where counts lat ops) graph.to graph.from graph.delay (IsBefore graph x) found
    (length ops)
