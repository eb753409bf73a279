-- A pass backwards keeps colours: what reads operations reads those that they are paired with too, at the same use.
use Rattle.iloc_validation.proofs.Common.{◌≡◌, ℕ, zero, suc, ◌+◌, ◌-◌, ◌%◌, ◌^◌, ◌<◌, ◌≤◌, List, length, IfSome, slice_index, Some, None, Option, option_map, sym, refl, ap, ◌∙◌, subst, ap₂, inl, inr, arith, eq-eqb, ne_eqb, add_comm, mod-add-mod, cases_eq, sum_by-cons, range_with_len, sources_at, Sources, AreBackwards, HaveColours, IsBelow, ReadAlike, heard, heard_of, mixed, said, by_numbers}
use Rattle.iloc_validation.specs.Steps.Colours.{AreBelow}
use Rattle.iloc_validation.proofs.ColourSums.{ranges_paired}

-- nothing is heard of what isn't read

said_none : (v s n : ℕ) (o : Option ℕ) → IfSome o (λ j. j < n) → n ≤ s → said v s o ≡ 0
said_none v s n o below past = grind (arith, ne_eqb)

heard_of_none : (c s n : ℕ) (src : Sources) → IsBelow n src → n ≤ s → heard_of c s src ≡ 0
heard_of_none c s n src below past = grind (arith, said_none)

-- so only those behind it count
behind : (colour : ℕ → ℕ) (sources : List Sources) → AreBelow sources → (s n u m : ℕ) → u ≤ s + 1 → s + 1 + n ≡ u + m
    → u + m ≤ length sources → heard colour sources s u m ≡ heard colour sources s (s + 1) n
behind colour sources below s n u zero early all within = grind arith
behind colour sources below s n u (suc m) early all within = elim (cases_eq u (s + 1)) [
  | inl same ↦ let many : n ≡ suc m = omega arith in ap₂ (heard colour sources s) same (sym many)
  | inr apart ↦
      let none : heard_of (colour u) s (sources_at sources u) ≡ 0 =
      heard_of_none (colour u) s u (sources_at sources u) (below u (omega arith)) (omega arith) in
      let rest : heard colour sources s (u + 1) m ≡ heard colour sources s (s + 1) n =
      behind colour sources below s n (u + 1) m (omega arith) (omega arith) (omega arith) in
      let no_more : 0 + heard colour sources s (s + 1) n ≡ heard colour sources s (s + 1) n = omega arith in
      sum_by-cons (λ v. heard_of (colour v) s (sources_at sources v)) u (range_with_len (u + 1) m)
      ∙ ap₂ ◌+◌ none rest
      ∙ no_more
]

module _ (to : ℕ → ℕ) (v w p : ℕ) where
  -- a use of one operation is one of that which it is paired with
  said_paired : (n : ℕ) (o : Option ℕ) → IfSome o (λ j. j < n) → ((j : ℕ) → j < n → to p ≡ to j → p ≡ j)
      → (o ≡ Some p → v ≡ w) → said v p o ≡ said w (to p) (option_map to o)
  said_paired n o below apart same = grind (arith, cases_eq, eq-eqb, ne_eqb)

-- what an operation hears of a reader, the one that it is paired with hears of that which the reader is paired with
module _ (to : ℕ → ℕ) (c d p u q : ℕ) (apart : (j : ℕ) → j < u → to p ≡ to j → p ≡ j) (same : to p < q → c ≡ d) where
  read : (o : Option ℕ) → IfSome (option_map to o) (λ i. i < q) → o ≡ Some p → to p < q
  read None below is = absurd cc
  read (Some j) below is = let here : j ≡ p = cc in subst (λ i. to i < q) here below

  heard_of_paired : (src : Sources) → IsBelow u src → IsBelow q (by_numbers to src)
      → heard_of c p src ≡ heard_of d (to p) (by_numbers to src)
  heard_of_paired src below below_too = grind (arith, read, said_paired)

module _ (here there : List Sources) (to from : ℕ → ℕ) (alike : ReadAlike here there to from) (below : AreBelow here)
    (below_too : AreBelow there) (old new old' new' : List ℕ) (made : AreBackwards here old new)
    (made_too : AreBackwards there old' new') (kept : HaveColours (length there) to old old') where
  apart_by : (p j : ℕ) → p < length there → j < length there → to p ≡ to j → p ≡ j
  apart_by p j within within_too equal = sym (alike.back p within) ∙ ap from equal ∙ alike.back j within_too

  -- by the number in the block, above which all that reads is
  step : (d p : ℕ) → p < length there → length here ≤ to p + d → slice_index new' p ≡ slice_index new (to p)
  step zero p within far = let inside : to p < length here = alike.leads p within in absurd (omega arith)
  step (suc d) p within far =
      let inside : to p < length here = alike.leads p within in
      let ours : heard (slice_index new) here (to p) 0 (length here)
      ≡ heard (slice_index new) here (to p) (to p + 1) (length here - (to p + 1)) =
      behind (slice_index new) here below (to p) (length here - (to p + 1)) 0 (length here) (omega arith) (omega arith)
      (omega arith) in
      let theirs : heard (slice_index new') there p 0 (length there)
      ≡ heard (slice_index new') there p (p + 1) (length there - (p + 1)) =
      behind (slice_index new') there below_too p (length there - (p + 1)) 0 (length there) (omega arith) (omega arith)
      (omega arith) in
      let both : heard (slice_index new) here (to p) 0 (length here) ≡ heard (slice_index new') there p 0 (length there) =
      ranges_paired (length here) (length there) to from alike.leads alike.back alike.leads_too alike.back_too
      (λ i. heard_of (slice_index new i) (to p) (sources_at here i))
      (λ u. heard_of (slice_index new' u) p (sources_at there u))
      (λ u there_u.
      let reads : by_numbers to (sources_at there u) ≡ sources_at here (to u) = alike.reads u there_u in
      heard_of_paired to (slice_index new' u) (slice_index new (to u)) p u (to u)
      (λ j before. apart_by p j within (omega arith))
      (λ later. step d u there_u (omega arith))
      (sources_at there u) (below_too u there_u)
      (subst (IsBelow (to u)) (sym reads) (below (to u) (alike.leads u there_u)))
      ∙ ap (heard_of (slice_index new (to u)) (to p)) reads) in
      let sums : heard (slice_index new') there p (p + 1) (length there - (p + 1))
      ≡ heard (slice_index new) here (to p) (to p + 1) (length here - (to p + 1)) = sym theirs ∙ sym both ∙ ours in
      made_too p within
      ∙ ap₂ (λ c h. mixed c (h % 2 ^ 64)) (kept p within) sums
      ∙ sym (made (to p) inside)

  pub backwards_keep : HaveColours (length there) to new new'
  backwards_keep p within = step (length here) p within (omega arith)

-- The loop

heard_same : (f g : ℕ → ℕ) (sources : List Sources) (s u m : ℕ) → ((v : ℕ) → u ≤ v → g v ≡ f v)
    → heard g sources s u m ≡ heard f sources s u m
heard_same f g sources s u zero same = refl
heard_same f g sources s u (suc m) same =
    sum_by-cons (λ v. heard_of (g v) s (sources_at sources v)) u (range_with_len (u + 1) m)
    ∙ ap₂ ◌+◌ (ap (λ c. heard_of c s (sources_at sources u)) (same u (omega arith)))
    (heard_same f g sources s (u + 1) m (λ v past. same v (omega arith)))
    ∙ sym (sum_by-cons (λ v. heard_of (f v) s (sources_at sources v)) u (range_with_len (u + 1) m))

-- one more reader, before those that were heard so far
pub heard_more : (f g : ℕ → ℕ) (sources : List Sources) (s k n before after : ℕ) → 0 < k → k ≤ n
    → ((v : ℕ) → k ≤ v → g v ≡ f v) → before ≡ heard f sources s k (n - k) % 2 ^ 64
    → after ≡ (before + heard_of (g (k - 1)) s (sources_at sources (k - 1))) % 2 ^ 64
    → after ≡ heard g sources s (k - 1) (n - (k - 1)) % 2 ^ 64
heard_more f g sources s k n before after some within same so_far is =
    let many : n - (k - 1) ≡ suc (n - k) = omega arith in
    let next : k - 1 + 1 ≡ k = omega arith in
    let voice : ℕ = heard_of (g (k - 1)) s (sources_at sources (k - 1)) in
    let rest : heard g sources s (k - 1 + 1) (n - k) ≡ heard f sources s k (n - k) =
    rw next (heard_same f g sources s k (n - k) same) in
    let all : heard g sources s (k - 1) (suc (n - k)) ≡ voice + heard f sources s k (n - k) =
    sum_by-cons (λ v. heard_of (g v) s (sources_at sources v)) (k - 1) (range_with_len (k - 1 + 1) (n - k))
    ∙ ap (λ h. voice + h) rest in
    is
    ∙ ap (λ b. (b + voice) % 2 ^ 64) so_far
    ∙ mod-add-mod (heard f sources s k (n - k)) (2 ^ 64) voice
    ∙ ap (λ h. h % 2 ^ 64) (add_comm (heard f sources s k (n - k)) voice ∙ sym all ∙ ap (heard g sources s (k - 1)) (sym many))

-- what an operation hears of those behind it stays
pub heard_stays : (f g : ℕ → ℕ) (sources : List Sources) (j k n c : ℕ) → k ≤ j + 1 → ((v : ℕ) → k ≤ v → g v ≡ f v)
    → mixed c (heard f sources j (j + 1) (n - (j + 1)) % 2 ^ 64) ≡ mixed c (heard g sources j (j + 1) (n - (j + 1)) % 2 ^ 64)
heard_stays f g sources j k n c past same =
    ap (λ h. mixed c (h % 2 ^ 64)) (sym (heard_same f g sources j (j + 1) (n - (j + 1)) (λ v late. same v (omega arith))))
