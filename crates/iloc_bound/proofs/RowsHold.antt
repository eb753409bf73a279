-- How many of some operations a row holds; for `laws::least_bounds_the_cycles`.
use Rattle.iloc_bound.proofs.Common.{◌≡◌, ℕ, ◌≤◌, Bool, true, false, ◌&&◌, List, IsTrue, count_by, Option, option_to_list, arith, and_cases, count_by-le-length, Op, op_at, is_load, is_memory, is_mult, is_output, kind, is_some_kind, keeps_units, kind_in, slots, Kind, Row}
use Rattle.iloc_bound.proofs.Counting.{count-mono}

-- whether operation i is of such a kind
abbrev pub is_kind : (Kind → Bool) → List Op → ℕ → Bool
is_kind test ops i = test (kind (op_at ops i))

-- a row holds so many of the operations of these kinds
abbrev pub Holds : (Kind → Bool) → ℕ → List Op → Type 0
Holds test width ops = (row : Row) → IsTrue (keeps_units ops row) → count_by (is_kind test ops) (slots row) ≤ width

one_slot : (p : ℕ → Bool) (slot : Option ℕ) → count_by p (option_to_list slot) ≤ 1
one_slot p slot = grind (arith, count_by-le-length)

-- the parts of the rules of the units
units_of : (ops : List Op) (row : Row) → IsTrue (keeps_units ops row)
    → (is_some_kind is_mult (kind_in ops row.zero) ≡ false) × (is_some_kind is_memory (kind_in ops row.one) ≡ false)
    × ((is_some_kind is_output (kind_in ops row.zero) && is_some_kind is_output (kind_in ops row.one)) ≡ false)
units_of ops row h = grind arith

not_there : (test : Kind → Bool) (ops : List Op) (slot : Option ℕ) → is_some_kind test (kind_in ops slot) ≡ false
    → count_by (is_kind test ops) (option_to_list slot) ≤ 0
not_there test ops slot h = grind arith

pub holds_memory : (ops : List Op) → Holds is_memory 1 ops
holds_memory ops = grind (arith, not_there, one_slot, units_of)

pub holds_products : (ops : List Op) → Holds is_mult 1 ops
holds_products ops = grind (arith, not_there, one_slot, units_of)

pub holds_outputs : (ops : List Op) → Holds is_output 1 ops
holds_outputs ops row h = grind (arith, and_cases, not_there, one_slot, units_of)

pub holds_all : (ops : List Op) → Holds (λ k. true) 2 ops
holds_all ops = grind (arith, one_slot)

pub holds_loads : (ops : List Op) → Holds is_load 1 ops
holds_loads ops = grind (arith, count-mono, holds_memory)
