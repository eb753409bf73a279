-- The first colours of operations: label, and place among stores and outputs.
use Rattle.std.specs.Prelude.{ℕ, zero, suc, ◌+◌, ◌%◌, ◌^◌, ◌≡◌, Bool, if◌then◌else◌, List, [], ◌∷◌, ◌++◌, count_by, Option, Some, None, unwrap_or}
use Rattle.iloc_ops.specs.declared.op.Op.{Op}
use Rattle.iloc_meaning.specs.Trace.{op_at}
use Rattle.iloc_timed.specs.declared.kind.Kind.{Kind}
use Rattle.iloc_timed.specs.declared.kind.Kind.TheVariants as K
use Rattle.iloc_timed.specs.declared.row.Row.{Row}
use Rattle.iloc_timed.specs.Kinds.{kind, is_store, is_output}
use Rattle.iloc_timed.specs.Rows.{issue_cycle}
use Rattle.iloc_facts.specs.declared.by_label.ByLabel.{ByLabel}
use Rattle.iloc_validation.specs.declared.decision.first_colours.Places.{Places}
use Rattle.iloc_facts.specs.Readings.{issued_before}
use Rattle.iloc_validation.specs.Steps.Colours.{mixed}
use Rattle.iloc_facts.specs.ByLabel.{number_like}

-- that of a label: the number of one of the block's operations that have it; or that of no operation
abbrev pub label_colour : ByLabel → Op → ℕ
label_colour labels op = unwrap_or (number_like labels op) 18446744073709551615

-- `colour` with the number of `stores` and `outputs` before an operation, as far as its kind keeps its place among them
abbrev pub with_place : Kind → ℕ → ℕ → ℕ → ℕ
with_place K.Load colour stores outputs = mixed colour stores
with_place K.Store colour stores outputs = mixed colour stores
with_place K.Output colour stores outputs = mixed (mixed colour stores) outputs
with_place _ colour stores outputs = colour

-- the colour of an operation after `stores` stores and `outputs` outputs
abbrev pub first_colour : ByLabel → ℕ → ℕ → Op → ℕ
first_colour labels stores outputs op = with_place (kind op) (label_colour labels op) stores outputs

-- the same of what stands in a slot
abbrev pub colour_in : ByLabel → List Op → ℕ → ℕ → Option ℕ → ℕ
colour_in labels ops stores outputs None = 0
colour_in labels ops stores outputs (Some k) = first_colour labels stores outputs (op_at ops k)

-- one more, if an operation passes
abbrev pub counted : (Kind → Bool) → Op → ℕ → ℕ
counted test op count = if test (kind op) then (count + 1) % 2 ^ 64 else count

-- places with one more operation
abbrev pub with_op : Op → Places → Places
with_op op places = record { stores = counted is_store op places.stores; outputs = counted is_output op places.outputs }

-- places with what stands in a slot
abbrev pub with_slot : List Op → Option ℕ → Places → Places
with_slot ops None places = places
with_slot ops (Some k) places = with_op (op_at ops k) places

-- how many of the operations `ks` have a kind that passes `test`
abbrev pub count_of : (Kind → Bool) → List Op → List ℕ → ℕ
count_of test ops ks = count_by (λ k. test (kind (op_at ops k))) ks

-- `places` has the numbers of stores and outputs among the operations `ks`
pub record ArePlaces (ops : List Op) (ks : List ℕ) (places : Places) : Type 0 where
  pub stores : places.stores ≡ count_of is_store ops ks % 2 ^ 64
  pub outputs : places.outputs ≡ count_of is_output ops ks % 2 ^ 64

-- the colour of operation `k` after the operations `ks`
abbrev pub colour_behind : ByLabel → List Op → List ℕ → ℕ → ℕ
colour_behind labels ops ks k =
    first_colour labels (count_of is_store ops ks % 2 ^ 64) (count_of is_output ops ks % 2 ^ 64) (op_at ops k)

-- the numbers below n
abbrev pub numbers_below : ℕ → List ℕ
numbers_below zero = []
numbers_below (suc n) = numbers_below n ++ (n ∷ [])

-- the first colours of a block's operations, and of the rows' operations
abbrev pub first_here : ByLabel → List Op → ℕ → ℕ
first_here labels block i = colour_behind labels block (numbers_below i) i

abbrev pub first_there : ByLabel → List Op → List Row → ℕ → ℕ
first_there labels ops rows k = colour_behind labels ops (issued_before rows (issue_cycle rows k)) k
