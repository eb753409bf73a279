-- No number was capped where the numbers of an operation are within the limit.
use Rattle.iloc_text.proofs.Common.{◌≡◌, ℕ, ◌≤◌, true, List, [], ◌∷◌, map, nat_lt, Some, sym, refl, ap, ◌∙◌, ap₂, arith, nat_tests, AllByRecursion, list_all, Operand, number_of, numbers, op_of, opcode, operands, MAX_NUMBER, Op, IsWithinLimit, capped, is_within, ABOVE_LIMIT}
use Rattle.std.proofs.lemmas.List.Folds.{list_all-map}
use Rattle.iloc_text.proofs.Names.{capped_op, op_same, numbers-capped}

-- the test of each operand's number is that of the numbers
pub all_numbers : (os : List Operand) → list_all (λ o. nat_lt (number_of o) ABOVE_LIMIT) os
    ≡ list_all (λ n. nat_lt n ABOVE_LIMIT) (map number_of os)
all_numbers os = sym (list_all-map (λ n. nat_lt n ABOVE_LIMIT) number_of os)

pub capped_within : (n : ℕ) → n ≤ MAX_NUMBER → capped n ≡ n
capped_within n h = omega arith

all_within : (ns : List ℕ) → AllByRecursion (λ n. n ≤ MAX_NUMBER) ns → map capped ns ≡ ns
all_within [] h = refl
all_within (n ∷ ns) h = ap₂ (λ m ms. m ∷ ms) (capped_within n h.0) (all_within ns h.1)

pub capped-within : (op : Op) → IsWithinLimit op → capped_op op ≡ op
unfolding capped_op
capped-within op h = ap (op_of (opcode op)) (all_within (numbers op) h) ∙ op_same op

pub all_small : (ns : List ℕ) → list_all (λ n. nat_lt n ABOVE_LIMIT) (map capped ns) ≡ true
    → AllByRecursion (λ n. n ≤ MAX_NUMBER) ns
all_small [] h = tt
all_small (n ∷ ns) h = grind (arith, nat_tests, all_small ns)

pub small_all : (ns : List ℕ) → AllByRecursion (λ n. n ≤ MAX_NUMBER) ns
    → list_all (λ n. nat_lt n ABOVE_LIMIT) (map capped ns) ≡ true
small_all [] h = refl
small_all (n ∷ ns) h = let small : nat_lt (capped n) ABOVE_LIMIT ≡ true = let le : n ≤ MAX_NUMBER = h.0 in
    grind (arith, nat_tests) in rw (small, small_all ns h.1) refl

pub within_limit : (op : Op) → is_within (Some (capped_op op)) ≡ true → IsWithinLimit op
within_limit op h = all_small (numbers op) (ap (list_all (λ n. nat_lt n ABOVE_LIMIT)) (sym (numbers-capped op))
    ∙ sym (all_numbers (operands (capped_op op))) ∙ h)
