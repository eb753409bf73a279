use Rattle.iloc_validation.proofs.Common.{◌≡◌, ℕ, zero, suc, ◌<◌, ◌≤◌, List, [], ◌∷◌, length, ◌==◌, refl, ap, subst, inl, inr, arith, eq-eqb, cases_lt, Op, any_at, In, ArePaired}
use Rattle.iloc_validation.proofs.UnderWayExcludes.{none_under_way}
use Rattle.std.proofs.lemmas.Map.Steps.{le-length_from_below}
use Rattle.iloc_validation.proofs.decision.is_excluded.Goals as goal

-- Where operations are paired, there are as many on both sides.

-- the values of so many numbers, the last first
abbrev values_below : ℕ → (ℕ → ℕ) → List ℕ
values_below zero f = []
values_below (suc n) f = f n ∷ values_below n f

length-values : (n : ℕ) (f : ℕ → ℕ) → length (values_below n f) ≡ n
length-values zero f = refl
length-values (suc n) f = ap suc (length-values n f)

in_values : (n : ℕ) (f : ℕ → ℕ) (k : ℕ) → k < n → In (values_below n f) (f k)
in_values zero f k here = absurd (omega arith)
in_values (suc n) f k here = elim (cases_lt k n) [
  | inl before ↦ inr (in_values n f k before)
  | inr last ↦ let same : n ≡ k = omega arith in inl (ap f same)
]

-- what leads to each of n numbers leads there from as many
reached : (n m : ℕ) (to from : ℕ → ℕ) → ((i : ℕ) → i < n → from i < m) → ((i : ℕ) → i < n → to (from i) ≡ i) → n ≤ m
reached n m to from below back =
    subst (λ l. n ≤ l) (length-values m to) (le-length_from_below (values_below m to) n (λ q here.
    any_at (λ j. q == j) (values_below m to) q
    (subst (In (values_below m to)) (back q here) (in_values m to (from q) (below q here))) (eq-eqb q q refl)))

paired_lengths : (block ops : List Op) (origin partner : ℕ → ℕ) → ArePaired block ops origin partner
    → length block ≡ length ops
paired_lengths block ops origin partner paired =
    let here : length block ≤ length ops =
    reached (length block) (length ops) origin partner paired.there_too paired.back_too in
    let there : length ops ≤ length block =
    reached (length ops) (length block) partner origin paired.there paired.back in
    omega arith

pub returns : goal.returns
returns c = λ yes origin partner under.
    let it = c.is_under_way.ensures yes in
    none_under_way c.args.sides.now.latencies.now c.args.sides.now.block.items c.args.sides.now.schedule.now.ops
    c.args.sides.now.schedule.now.rows origin partner under it.0 it.1 it.2 it.3 it.4

pub returns-then-len : goal.returns-then-len
returns-then-len c = λ yes origin partner under.
    let same : length c.args.sides.now.block.items ≡ length c.args.sides.now.schedule.now.ops =
    paired_lengths c.args.sides.now.block.items c.args.sides.now.schedule.now.ops origin partner under.paired in
    omega (arith, same, c.args.sides.now.reading_count)
