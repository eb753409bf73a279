-- When operations are ready, by delay pairs from which all follow: `ready_cycles`, `explain`.
use Rattle.iloc_explain.proofs.Common.{◌≡◌, ℕ, ◌+◌, ◌<◌, ◌≤◌, max, ◌⊎◌, List, [], ◌∷◌, ◌++◌, length, get_or, ◌==◌, slice_index, Contains, sym, refl, ap, ◌∙◌, subst, inl, inr, arith, get_or_default, get_or-set_other, get_or-set_same, cases_eq, cases_lt, eq-eqb, ne_eqb, Op, issue_cycle, Latencies, MemoryRule, Row, contains_from, from_append, in_from, in_left, in_right, IsDelayPairWhere, counts_by, In, Pair, IsReadyAt, WaitsForAll}
use Rattle.std.specs.Prelude.{if◌then◌else◌}
use Rattle.std.proofs.Common.{cond, length-set, set}
use Rattle.std.specs.Ordering.{MatchOrdering, is_lt, nat_cmp, ord_max}
use Rattle.std.specs.declared.cmp.Ordering.{Ordering}
use Rattle.std.specs.declared.cmp.Ordering.TheVariants.{Equal, Greater, Less}
use Rattle.std.proofs.lemmas.Cmp.{ranked}
use Rattle.iloc_explain.specs.Measures.{ImplyAll}
use Rattle.iloc_explain.specs.Steps.Ready.{AreReady}

-- what is read where there is no pair
abbrev pub no_pair : Pair
no_pair = record { first = 0; second = 0; delay = 0 }

pub pair_there : (pairs : List Pair) (k : ℕ) → k < length pairs → Contains pairs (get_or pairs k no_pair)
pair_there pairs k within = (k, within, get_or_default pairs k (get_or pairs k no_pair) no_pair within)

-- the greater of two numbers, as it is computed
pub max_of : (a b : ℕ) → ord_max nat_cmp a b ≡ max a b
max_of a b = by_order (nat_cmp b a) (ranked b a (nat_cmp b a) refl)
  where
    by_order : (o : Ordering) → MatchOrdering o (b < a) (b ≡ a) (a < b) → cond (is_lt o) a b ≡ max a b
    by_order Less less = omega arith
    by_order Equal same = omega arith
    by_order Greater more = omega arith

-- one more pair
module _ (pairs : List Pair) (p : Pair) (issued ready : List ℕ) (are : AreReady pairs issued ready)
    (within : p.second < length issued) where
  abbrev over_now : ℕ
  over_now = slice_index issued p.first + p.delay

  abbrev raised : List ℕ
  raised = set ready p.second (max (slice_index ready p.second) over_now)

  own : slice_index raised p.second ≡ max (slice_index ready p.second) over_now
  own = get_or-set_same ready p.second (max (slice_index ready p.second) over_now) 0 (let size : length ready ≡ length issued = are.size in omega arith)

  other : (j : ℕ) → (j ≡ p.second → ⊥) → slice_index raised j ≡ slice_index ready j
  other j apart = get_or-set_other ready p.second j (max (slice_index ready p.second) over_now) 0 apart

  grows : (j : ℕ) → slice_index ready j ≤ slice_index raised j
  grows j = elim (cases_eq j p.second) [
    | inl same ↦ subst (λ k. slice_index ready k ≤ slice_index raised k) (sym same) (omega (arith, own))
    | inr apart ↦ omega (arith, other j apart)
  ]

  abbrev Reached : List ℕ → List Pair → ℕ → Type 0
  Reached ends found j = (slice_index ends j ≡ 0) ⊎ ((q : Pair) × In found q × (q.second ≡ j)
      × (slice_index issued q.first + q.delay ≡ slice_index ends j))

  before : (j : ℕ) → slice_index raised j ≡ slice_index ready j → Reached raised (pairs ++ p ∷ []) j
  before j same = elim (are.reached j) [
    | inl zero ↦ inl (same ∙ zero)
    | inr (q, there, to, at) ↦ inr (q, in_left pairs (p ∷ []) q there, to, at ∙ sym same)
  ]

  here : Reached raised (pairs ++ p ∷ []) p.second
  here = elim (cases_lt (slice_index ready p.second) over_now) [
    | inl more ↦ inr (p, in_right pairs (p ∷ []) p (inl refl), refl, omega (arith, own))
    | inr less ↦ before p.second (omega (arith, own))
  ]

  pub one_more_ready : AreReady (pairs ++ p ∷ []) issued raised
  one_more_ready = record {
    size = length-set ready p.second (max (slice_index ready p.second) over_now) ∙ are.size;
    over = λ q there. elim (from_append pairs (p ∷ []) q there) [
      | inl earlier ↦ omega (arith, are.over q earlier, grows q.second)
      | inr (inl same) ↦ subst (λ (r : Pair). slice_index issued r.first + r.delay ≤ slice_index raised r.second) same
          (omega (arith, own))
      | inr (inr none) ↦ absurd none
    ];
    reached = λ j. elim (cases_eq j p.second) [
      | inl same ↦ subst (Reached raised (pairs ++ p ∷ [])) (sym same) here
      | inr apart ↦ before j (other j apart)
    ];
  }

-- Where rows wait for all delays, the pairs alone say when an operation is ready: its cycle may be put in place of that of its issue.
module _ (rule : MemoryRule) (lat : Latencies) (ops : List Op) (rows : List Row) (pairs : List Pair) (issued ready : List ℕ)
    (all : ImplyAll rule lat ops pairs) (waits : WaitsForAll rule lat ops rows)
    (at : (i : ℕ) → i < length ops → slice_index issued i ≡ issue_cycle rows i) (are : AreReady pairs issued ready) where
  issued_first : (p : Pair) → Contains pairs p → slice_index issued p.first ≡ issue_cycle rows p.first
  issued_first p there = at p.first (omega (arith, (all.each p there).order, (all.each p there).within))

  by_issue : (j : ℕ) → slice_index ready j ≤ issue_cycle rows j
  by_issue j = elim (are.reached j) [
    | inl zero ↦ omega arith
    | inr (p, there, to, ends) ↦
        let held = contains_from pairs p there in
        subst (λ k. slice_index ready k ≤ issue_cycle rows k) to
        (let ends' : slice_index issued p.first + p.delay ≡ slice_index ready p.second = ends ∙ ap (slice_index ready) (sym to) in
        omega (arith, ends', issued_first p held, waits p.first p.second p.delay (all.each p held)))
  ]

  abbrev moved : ℕ → ℕ → ℕ
  moved j k = if k == j then slice_index ready j else issue_cycle rows k

  moved_own : (j : ℕ) → moved j j ≡ slice_index ready j
  moved_own j = rw (eq-eqb j j refl) refl

  moved_other : (j k : ℕ) → (k ≡ j → ⊥) → moved j k ≡ issue_cycle rows k
  moved_other j k apart = rw (ne_eqb k j apart) refl

  moved_low : (j k : ℕ) → moved j k ≤ issue_cycle rows k
  moved_low j k = elim (cases_eq k j) [
    | inl same ↦ subst (λ m. moved j m ≤ issue_cycle rows m) (sym same) (omega (arith, moved_own j, by_issue j))
    | inr apart ↦ omega (arith, moved_other j k apart)
  ]

  moved_waits : (j : ℕ) (p : Pair) → Contains pairs p → moved j p.first + p.delay ≤ moved j p.second
  moved_waits j p there = elim (cases_eq p.second j) [
    | inl same ↦
        let over : slice_index issued p.first + p.delay ≤ slice_index ready p.second = are.over p (in_from pairs p there) in
        subst (λ m. moved m p.first + p.delay ≤ moved m p.second) same
        (omega (arith, over, moved_low p.second p.first, issued_first p there, moved_own p.second))
    | inr apart ↦
        omega (arith, moved_low j p.first, waits p.first p.second p.delay (all.each p there), moved_other j p.second apart)
  ]

  pub is_ready : (j : ℕ) → IsReadyAt rule lat ops rows j (slice_index ready j)
  is_ready j = record {
    over = λ i d pair.
        let apart : i ≡ j → ⊥ = (λ same. omega (arith, pair.order, same)) in
        omega (arith, all.imply (moved j) (moved_waits j) i j d pair, moved_other j i apart, moved_own j);
    earliest = elim (are.reached j) [
      | inl zero ↦ inl zero
      | inr (p, there, to, ends) ↦
          let held = contains_from pairs p there in
          inr (
            p.first,
            record {
              delay = p.delay;
              pair = subst (λ k. IsDelayPairWhere (counts_by rule ops) lat ops p.first k p.delay) to (all.each p held);
              ends = sym (ap (λ c. c + p.delay) (issued_first p held)) ∙ ends;
            },
          )
    ];
  }
