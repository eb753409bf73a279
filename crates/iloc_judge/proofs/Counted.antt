-- Places can be counted: no more is emitted than is issued, and that in a row.
use Rattle.iloc_judge.proofs.Common.{◌≡◌, ℕ, zero, suc, ◌+◌, ◌*◌, ◌^◌, ◌<◌, ◌≤◌, Bool, List, [], ◌∷◌, length, ℤ, slice_get, Some, None, Option, option_to_list, refl, ap, arith, length-append, cases_lt, Op, emitted, emitted_by, outcome, Executed, before, Outcome, slots, Latencies, Row, IsComparison, Comparison, Verdict, IsVerdict}
use Rattle.std.proofs.lemmas.List.{length-map}
use Rattle.std.proofs.lemmas.Option.{slice_get_past}
use Rattle.iloc_ops.specs.Limits.{MAX_OPS}
use Rattle.iloc_meaning.specs.declared.effect.Effect.{Effect}
use Rattle.iloc_meaning.specs.declared.effect.Effect.TheVariants.{Faults}
use Rattle.iloc_meaning.specs.declared.outcome.Outcome.TheVariants as O
use Rattle.iloc_timed.specs.Limits.{MAX_ROWS}
use Rattle.iloc_timed.specs.Timed.{issued_before, timed_outcome}
use Rattle.iloc_comparison.specs.declared.difference.Difference.{Difference}
use Rattle.iloc_comparison.specs.Difference.{IsDifference}
use Rattle.iloc_verdict.specs.Counted.{CanBeNumbered, CanBeCompared, CanBeListed}
use Rattle.iloc_verdict.specs.Obstacle.{IsAmong}
use Rattle.iloc_verdict.specs.declared.obstacle.Obstacle.{Obstacle}
use Rattle.iloc_verdict.specs.declared.obstacle.Obstacle.TheVariants.{Unread, Units}
use Rattle.iloc_judge.specs.Obstacle.{Hinders}

-- at most n words are emitted
abbrev EmitsAtMost : ℕ → Outcome → Type 0
EmitsAtMost n (O.Finished gots memory) = length gots ≤ n
EmitsAtMost n O.Fault = Unit {0}

one_emitted : (effect : Effect) → length (emitted_by effect) ≤ 1
one_emitted Faults = omega arith
one_emitted _ = omega arith

few_emitted : (trace : List Executed) → length (emitted trace) ≤ length trace
few_emitted [] = omega arith
few_emitted (e ∷ earlier) =
    omega (arith, length-append (emitted earlier) (emitted_by e.effect), one_emitted e.effect, few_emitted earlier)

length-before : (memory : List ℤ) (ops : List Op) (n : ℕ) → length (before memory ops n) ≡ n
length-before memory ops zero = refl
length-before memory ops (suc n) = ap suc (length-before memory ops n)

length-slot : (slot : Option ℕ) → length (option_to_list slot) ≤ 1
length-slot None = omega arith
length-slot (Some i) = omega arith

length-slots : (row : Row) → length (slots row) ≤ 2
length-slots row =
    omega (arith, length-append (option_to_list row.one) (option_to_list row.zero), length-slot row.one, length-slot row.zero)

few_issued : (lat : Latencies) (memory : List ℤ) (ops : List Op) (rows : List Row) (c : ℕ)
    → length (issued_before lat memory ops rows c) ≤ 2 * c
few_issued lat memory ops rows zero = omega arith
few_issued lat memory ops rows (suc c) = grind (arith, length-append, length-map, length-slots, few_issued lat memory ops rows c)

block_emits : (block : List Op) (memory : List ℤ) → EmitsAtMost (length block) (outcome block memory)
block_emits block memory = grind (arith, few_emitted, length-before)

rows_emit : (lat : Latencies) (ops : List Op) (rows : List Row) (memory : List ℤ)
    → EmitsAtMost (2 * length rows) (timed_outcome lat ops rows memory)
rows_emit lat ops rows memory = grind (arith, few_emitted, few_issued, length-map)

-- where two lists differ one of them has an item
apart_within : (xs ys : List ℤ) (i : ℕ) (x y : Option ℤ) → slice_get xs i ≡ x → slice_get ys i ≡ y → (x ≡ y → ⊥)
    → i < length xs + length ys
apart_within xs ys i x y first second apart = grind (arith, cases_lt, slice_get_past)

few_counted : (outputs : Bool) (n m : ℕ) (got wanted : Outcome) (difference : Difference) → n + m + 1 < 2 ^ 64 → EmitsAtMost n got
    → EmitsAtMost m wanted → IsDifference outputs got wanted difference → CanBeNumbered difference
few_counted outputs n m got wanted difference small few fewer is = grind (arith, apart_within)

difference_counted : (outputs : Bool) (lat : Latencies) (block ops : List Op) (rows : List Row) (memory : List ℤ) (difference : Difference)
    → length block ≤ MAX_OPS → length rows ≤ MAX_ROWS
    → IsDifference outputs (timed_outcome lat ops rows memory) (outcome block memory) difference → CanBeNumbered difference
difference_counted outputs lat block ops rows memory difference short few is =
    few_counted outputs (2 * length rows) (length block) (timed_outcome lat ops rows memory) (outcome block memory) difference
    (omega arith) (rows_emit lat ops rows memory) (block_emits block memory) is

compared_listed : (outputs : Bool) (lat : Latencies) (memory : List ℤ) (block ops : List Op) (rows : List Row) (found : Comparison)
    → length block ≤ MAX_OPS → length rows ≤ MAX_ROWS → IsComparison outputs lat block ops rows memory found
    → CanBeCompared found
compared_listed outputs lat memory block ops rows found short few is = grind (arith, difference_counted)

-- a row that breaks the rules of the units is one of them
pub among : (ops : List Op) (rows : List Row) (obstacle : Obstacle) → Hinders ops rows obstacle → IsAmong rows obstacle
among ops rows (Unread unread words) hinders = tt
among ops rows (Units c) hinders = hinders.within

pub verdict_listed : (outputs : Bool) (lat : Latencies) (memory : List ℤ) (block ops : List Op) (rows : List Row) (verdict : Verdict)
    → length block ≤ MAX_OPS → length rows ≤ MAX_ROWS → IsVerdict outputs lat block ops rows memory verdict
    → CanBeListed rows verdict
verdict_listed outputs lat memory block ops rows verdict short few is = grind (arith, among, compared_listed)
