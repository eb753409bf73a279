-- The cycles of issue, noted row by row.
use Rattle.iloc_explain.proofs.Common.{◌≡◌, ℕ, ◌+◌, ◌<◌, true, ◌⊎◌, List, ◌++◌, length, IfSome, ◌==◌, slice_index, Some, None, Option, option_to_list, refl, arith, get_or-set_other, get_or-set_same, rules, cases_eq, cases_lt, eqb-true, or_cases, list_any, Op, holds_one, holds_zero, issued_there, stands_there, IsTable, holds, issue_cycle, row_at, Row}
use Rattle.iloc_explain.specs.Steps.Issued.{AreIssued, with_slot}

-- what stands in a row stands in one of its slots
pub in_slots : (one zero : Option ℕ) (i : ℕ) → list_any (λ j. i == j) (option_to_list one ++ option_to_list zero) ≡ true
    → (zero ≡ Some i) ⊎ (one ≡ Some i)
in_slots one zero i any = grind (arith, eqb-true, or_cases)

slot_here : (cycles : List ℕ) (slot : Option ℕ) (c i : ℕ) → slot ≡ Some i → i < length cycles
    → slice_index (with_slot cycles slot c) i ≡ c
slot_here cycles slot c i is within = grind (arith, get_or-set_same)

slot_other : (cycles : List ℕ) (slot : Option ℕ) (c i : ℕ) → (slot ≡ Some i → ⊥)
    → slice_index (with_slot cycles slot c) i ≡ slice_index cycles i
slot_other cycles slot c i other = grind (arith, get_or-set_other)

-- what is noted already stays where the same is noted again
slot_kept : (cycles : List ℕ) (slot : Option ℕ) (c i : ℕ) → i < length cycles → slice_index cycles i ≡ c
    → slice_index (with_slot cycles slot c) i ≡ c
slot_kept cycles slot c i within is = grind (arith, cases_eq, slot_here, slot_other)

pub length-with_slot : (cycles : List ℕ) (slot : Option ℕ) (c : ℕ) → length (with_slot cycles slot c) ≡ length cycles
length-with_slot cycles None c = refl
length-with_slot cycles (Some i) c = search rules

-- what a slot holds has a place in the list
pub slot_known : (slot : Option ℕ) (n m : ℕ) → n ≡ m → IfSome slot (λ i. i < m) → IfSome slot (λ i. i < n)
slot_known None n m same known = tt
slot_known (Some i) n m same known = let below : i < m = known in omega arith

module _ (ops : List Op) (rows : List Row) (table : IsTable ops rows) (c : ℕ) (here : c < length rows) where
  at_here : (i : ℕ) → i < length ops → holds (row_at rows c) i ≡ true → issue_cycle rows i ≡ c
  at_here i within there = issued_there rows c i (table.once i within) here there

  stands : (i : ℕ) → i < length ops → issue_cycle rows i ≡ c
      → ((row_at rows c).zero ≡ Some i) ⊎ ((row_at rows c).one ≡ Some i)
  stands i within at = grind (arith, in_slots, stands_there)

  -- one more row
  pub row_issued : (cycles : List ℕ) → AreIssued rows (length ops) c cycles
      → AreIssued rows (length ops) (c + 1) (with_slot (with_slot cycles (row_at rows c).zero c) (row_at rows c).one c)
  row_issued cycles so_far = grind (arith, at_here, cases_lt, holds_one, holds_zero, length-with_slot, slot_here, slot_kept, slot_other, stands)
