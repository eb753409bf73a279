-- What is kept of the ready list from cycle to cycle.
use Rattle.std.specs.Prelude.{ℕ, ◌≡◌, ◌<◌, ◌≤◌, ◌⊎◌, true, List, ◌∷◌, slice_get, Option, Some, None}
use Rattle.std.specs.BTreeMap.{is_at}
use Rattle.std.specs.BTreeSet.{IsOrdered}
use Rattle.std.specs.Set.{remove_key}
use Rattle.std.specs.Ordering.{nat_cmp, ordering_then}
use Rattle.std.specs.declared.cmp.Ordering.{Ordering}
use Rattle.std.specs.declared.cmp.Reverse.{Reverse}
use Rattle.iloc_ops.specs.declared.op.Op.{Op}
use Rattle.iloc_timed.specs.declared.latencies.Latencies.{Latencies}
use Rattle.iloc_timed.specs.declared.row.Row.{Row}
use Rattle.iloc_timed.specs.Rows.{IsTable, holds}
use Rattle.iloc_rules.specs.declared.memory_rule.MemoryRule.{MemoryRule}
use Rattle.iloc_rules.specs.Steps.Members.{In}
use Rattle.iloc_explain.specs.declared.explanation.Explained.{Explained}
use Rattle.iloc_explain.specs.declared.ready_list.ReadyList.{ReadyList}
use Rattle.iloc_explain.specs.Explained.{AreExplained}

-- a place in the order of choice
abbrev pub Place : Type 0
Place = Reverse ℕ × ℕ

-- the order of choice: by falling priority, then by number
abbrev pub place_cmp : Place → Place → Ordering
place_cmp p q = ordering_then (nat_cmp q.0.0 p.0.0) (nat_cmp p.1 q.1)

-- by the cycle, then in the order of choice
abbrev pub coming_cmp : ℕ × Place → ℕ × Place → Ordering
coming_cmp p q = ordering_then (nat_cmp p.0 q.0) (place_cmp p.1 q.1)

-- the place of operation j
abbrev pub place_at : Explained → ℕ → Place
place_at own j = (record { 0 = own.priority }, j)

-- the operation at a place
abbrev pub number : Place → ℕ
number p = p.1

-- and with its priority
abbrev pub shown : Place → ℕ × ℕ
shown p = (p.1, p.0.0)

-- the places without that of what is in a slot
abbrev pub without_place : Option Explained → ℕ → List Place → List Place
without_place None i places = places
without_place (Some own) i places = remove_key (is_at (place_cmp (place_at own i))) places

abbrev pub without : List Explained → Option ℕ → List Place → List Place
without es None places = places
without es (Some i) places = without_place (slice_get es i) i places

-- what is kept is in the order of choice
pub record IsInOrder (list : ReadyList) : Type 0 where
  pub ready : IsOrdered place_cmp list.ready
  pub coming : IsOrdered coming_cmp list.coming

-- the place is that of an operation that is ready at cycle c and not issued before
pub record IsReadyPlace (es : List Explained) (c : ℕ) (p : Place) : Type 0 where
  pub own : Explained
  pub there : slice_get es p.1 ≡ Some own
  pub place : p ≡ place_at own p.1
  pub ready : own.ready ≤ c
  pub waits : c ≤ own.cycle

-- the place is that of an operation, after the cycle at which it becomes ready
pub record IsComing (es : List Explained) (q : ℕ × Place) : Type 0 where
  pub own : Explained
  pub there : slice_get es q.1.1 ≡ Some own
  pub place : q ≡ (own.ready, place_at own q.1.1)
  pub in_time : own.ready ≤ own.cycle

-- The operations that aren't issued before cycle c: some that are ready by then, and others that come.
pub record IsKept (es : List Explained) (c : ℕ) (list : ReadyList) : Type 0 where
  pub ready : (p : Place) → In list.ready.keys p → IsReadyPlace es c p
  pub coming : (q : ℕ × Place) → In list.coming.keys q → IsComing es q
  pub ahead : (q : ℕ × Place) → In list.coming.keys q → c ≤ q.0
  pub all : (j : ℕ) (own : Explained) → slice_get es j ≡ Some own → own.ready ≤ own.cycle → c ≤ own.cycle
      → In list.ready.keys (place_at own j) ⊎ In list.coming.keys (own.ready, place_at own j)

-- the first of what comes is at this place, and ready by cycle c; the others go on coming
pub record IsReleased (c : ℕ) (p : Place) (old new : List (ℕ × Place)) : Type 0 where
  pub cycle : ℕ
  pub begun : cycle ≤ c
  pub first : old ≡ (cycle, p) ∷ new

-- what comes isn't ready at cycle c
abbrev pub AreLater : ℕ → List (ℕ × Place) → Type 0
AreLater c coming = (q : ℕ × Place) → In coming q → c < q.0

-- what is still to come isn't ready at cycle `c`
pub record IsReadyList (es : List Explained) (c : ℕ) (list : ReadyList) : Type 0 where
  pub kept : IsKept es c list
  pub later : AreLater c list.coming.keys

-- the row issues what is issued at cycle c
pub record IsRowAt (es : List Explained) (row : Row) (c : ℕ) : Type 0 where
  pub all : (j : ℕ) (own : Explained) → slice_get es j ≡ Some own → own.cycle ≡ c → holds row j ≡ true
  pub only : (j : ℕ) (own : Explained) → slice_get es j ≡ Some own → holds row j ≡ true → own.cycle ≡ c

-- at cycle `c` the operations of `list` are explained, and it has what is ready then
pub record IsKnown (prios : List ℕ) (rule : MemoryRule) (lat : Latencies) (ops : List Op) (rows : List Row) (c : ℕ)
    (list : ReadyList) : Type 0 where
  pub explained : List Explained
  pub table : IsTable ops rows
  pub are : AreExplained prios rule lat ops rows explained
  pub is : IsReadyList explained c list
