-- Windows that fill their cycles keep the other operations of the share out.
use Rattle.iloc_optimum.proofs.Common.{◌≡◌, ℕ, zero, suc, ◌+◌, ◌-◌, ◌*◌, ◌<◌, ◌≤◌, Bool, true, false, cond, ◌&&◌, ◌⊎◌, List, length, get_or, nat_lt, count_by, inl, inr, arith, and_from, and_parts, cases_lt, range_with_len, Kind, count_range, from_range, count_by-cons, at_least, count-mono, in_between, width, Share, count_inside, is_inside, Crowd, Within, belongs, between}
use Rattle.std.proofs.lemmas.Bool.Decides.{nat_tests}

pub is_less : (q p : ℕ) → nat_lt q p ≡ true → q < p
is_less q p h = grind (arith, nat_tests)

-- one more operation is counted where it passes
pub count_next : (p : ℕ → Bool) (n : ℕ) (b : Bool) → p n ≡ b
    → count_by p (range_with_len 0 (n + 1)) ≡ count_by p (range_with_len 0 n) + cond b 1 0
count_next p n b e = grind (arith, count_range, count_by-cons)

-- over a range, what passes p passes q
pub count_grows : (p q : ℕ → Bool) (a n : ℕ) → ((i : ℕ) → a ≤ i → i < a + n → p i ≡ true → q i ≡ true)
    → count_by p (range_with_len a n) ≤ count_by q (range_with_len a n)
count_grows p q a n each = count-mono p q (range_with_len a n) (λ i there. let at = from_range a n i there in each i at.0 at.1)

-- and where k passes q alone, q counts one more
count_more : (p q : ℕ → Bool) (a n k : ℕ) → ((i : ℕ) → a ≤ i → i < a + n → p i ≡ true → q i ≡ true)
    → a ≤ k → k < a + n → p k ≡ false → q k ≡ true
    → count_by p (range_with_len a n) + 1 ≤ count_by q (range_with_len a n)
count_more p q a zero k each low high out inn = absurd (omega arith)
count_more p q a (suc n) k each low high out inn = grind (arith, count_by-cons, count_grows, count_more p q (a + 1) n k)

module _ (kinds : List Kind) (firsts lasts : List ℕ) (s : Share) (a e : ℕ) (t : ℕ → ℕ) where
  -- issued from a to e
  then_issued : ℕ → Bool
  then_issued i = belongs kinds s i && between a (e + 1) (t i)

  -- an operation with its window from a to e is issued then
  pub issued_inside : length firsts ≡ length kinds → length lasts ≡ length kinds → Within firsts lasts t
      → (i : ℕ) → i < length kinds → is_inside kinds firsts lasts s a e i ≡ true
      → (belongs kinds s i ≡ true) × (a ≤ t i) × (t i ≤ e)
  issued_inside same_firsts same_lasts w i below passes = grind (arith, and_parts, at_least)

  inside_then : length firsts ≡ length kinds → length lasts ≡ length kinds → Within firsts lasts t
      → (i : ℕ) → i < length kinds → is_inside kinds firsts lasts s a e i ≡ true → then_issued i ≡ true
  unfolding then_issued
  inside_then same_firsts same_lasts w i below passes = grind (arith, issued_inside, and_from, in_between)

  -- more have their windows from a to e than the cycles hold: no schedule is within the windows
  pub too_many : length firsts ≡ length kinds → length lasts ≡ length kinds
      → Crowd (width s) (belongs kinds s) (length kinds) t → Within firsts lasts t
      → count_inside kinds firsts lasts s a e (length kinds) ≤ width s * (e + 1 - a)
  unfolding then_issued
  too_many same_firsts same_lasts crowd w = grind (arith, count_grows, inside_then)

  -- just as many have: another operation of the share isn't issued there
  pub keeps_out : length firsts ≡ length kinds → length lasts ≡ length kinds
      → Crowd (width s) (belongs kinds s) (length kinds) t → Within firsts lasts t
      → width s * (e + 1 - a) ≤ count_inside kinds firsts lasts s a e (length kinds)
      → (k : ℕ) → k < length kinds → belongs kinds s k ≡ true → is_inside kinds firsts lasts s a e k ≡ false
      → (t k < a) ⊎ (e < t k)
  unfolding then_issued
  keeps_out same_firsts same_lasts crowd w full k below shares out =
      elim (cases_lt (t k) a) [
        | inl early ↦ inl early
        | inr late ↦ elim (cases_lt e (t k)) [
          | inl after ↦ inr after
          | inr before ↦
              (let there : then_issued k ≡ true = and_from (belongs kinds s k) (between a (e + 1) (t k)) shares
              (in_between a (e + 1) (t k) (omega arith) (omega arith)) in
              let most : count_by then_issued (range_with_len 0 (length kinds)) ≤ width s * (e + 1 - a) = crowd a (e + 1) in
              let more = count_more (is_inside kinds firsts lasts s a e) then_issued 0 (length kinds) k
              (λ i low high. inside_then same_firsts same_lasts w i (omega arith)) (omega arith) (omega arith) out there in
              absurd (omega arith))
        ]
      ]

  -- so a window that is left is kept to
  pub left_over : length firsts ≡ length kinds → length lasts ≡ length kinds
      → Crowd (width s) (belongs kinds s) (length kinds) t → Within firsts lasts t
      → width s * (e + 1 - a) ≤ count_inside kinds firsts lasts s a e (length kinds)
      → (k : ℕ) → k < length kinds → belongs kinds s k ≡ true
      → ((a ≤ get_or firsts k 0) × (get_or lasts k 0 ≤ e)) ⊎ (t k < a) ⊎ (e < t k)
  left_over same_firsts same_lasts crowd w full k below shares = grind (arith, cases_lt, and_parts, at_least, keeps_out)
