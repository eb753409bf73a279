-- Which operations are ready, by the rows below; for `laws::one_greedy_schedule` and `schedule` (`greedy`).
use Rattle.iloc_rules.proofs.Common.{◌≡◌, ℕ, ◌+◌, ◌<◌, ◌≤◌, Bool, ◌&&◌, ◌⊎◌, List, [], ◌∷◌, ◌++◌, length, nat_le, sym, refl, ap, ◌∙◌, subst, inl, inr, arith, le-leb, leb-true, and_from, and_parts, cases_lt, lt-leb, list_all, range_with_len, Op, op_at, issue_cycle, Latencies, Row, Counts, IsDelayPairWhere, all_count, delays_where, is_ready_where, ready, ready_where, In}
use Rattle.std.proofs.lemmas.List.Elements.{filter_agree}
use Rattle.iloc_rules.proofs.Basics.Members.{contains_from, in_from, in_filter, from_filter, all_from, from_all, in_range_from, from_range}
use Rattle.iloc_rules.proofs.Basics.Ordered.{ordered_filter}
use Rattle.iloc_rules.proofs.Basics.Rising.{Rises, rises_range}
use Rattle.iloc_rules.proofs.DelayPairs.FewerDelays.{delay_at_least_where}
use Rattle.iloc_rules.proofs.Basics.IssueCycles.{issue_cycle_front, issue_cycle_back}

-- whether the delay of (h, i, d) is over at cycle c
abbrev pub is_over : List Row → ℕ → ℕ → ℕ → Bool
is_over rows c h d = nat_le (issue_cycle rows h + d) c

-- whether all delays from h to i are over then
abbrev pub all_over_where : Counts → Latencies → List Op → List Row → ℕ → ℕ → ℕ → Bool
all_over_where counts lat ops rows c i h = list_all (is_over rows c h) (delays_where (counts h i) lat (op_at ops h) (op_at ops i))

-- operation i is not issued before cycle c, and each of its delays is over then
pub record IsReadyWhere (counts : Counts) (lat : Latencies) (ops : List Op) (rows : List Row) (c i : ℕ) : Type 0 where
  pub within : i < length ops
  pub waiting : c ≤ issue_cycle rows i
  pub over : (h d : ℕ) → IsDelayPairWhere counts lat ops h i d → issue_cycle rows h + d ≤ c

pub ready_means_where : (counts : Counts) (lat : Latencies) (ops : List Op) (rows : List Row) (c i : ℕ)
    → In (ready_where counts lat ops rows c) i
    → IsReadyWhere counts lat ops rows c i
ready_means_where counts lat ops rows c i there =
    let both = from_filter (is_ready_where counts lat ops rows c) (range_with_len 0 (length ops)) i there in
    let place : (0 ≤ i) × (i < 0 + length ops) = from_range 0 (length ops) i both.0 in
    let parts = and_parts (nat_le c (issue_cycle rows i)) (list_all (all_over_where counts lat ops rows c i) (range_with_len 0 i))
    both.1 in
    record {
      within = omega arith;
      waiting = leb-true c (issue_cycle rows i) parts.0;
      over = λ h d pair.
          leb-true (issue_cycle rows h + d) c
          (from_all (is_over rows c h) (delays_where (counts h i) lat (op_at ops h) (op_at ops i)) d
          (from_all (all_over_where counts lat ops rows c i) (range_with_len 0 i) h parts.1
          (in_range_from 0 i h (omega arith) (omega arith)))
          (in_from (delays_where (counts h i) lat (op_at ops h) (op_at ops i)) d pair.delay));
    }

pub ready_from_where : (counts : Counts) (lat : Latencies) (ops : List Op) (rows : List Row) (c i : ℕ)
    → IsReadyWhere counts lat ops rows c i
    → In (ready_where counts lat ops rows c) i
ready_from_where counts lat ops rows c i is =
    in_filter (is_ready_where counts lat ops rows c) (range_with_len 0 (length ops)) i
    (in_range_from 0 (length ops) i (omega arith) (omega arith))
    (and_from _ _ (le-leb c (issue_cycle rows i) is.waiting)
    (all_from (all_over_where counts lat ops rows c i) (range_with_len 0 i) (λ h there.
    let place : (0 ≤ h) × (h < 0 + i) = from_range 0 i h there in
    all_from (is_over rows c h) (delays_where (counts h i) lat (op_at ops h) (op_at ops i)) (λ d inside.
    le-leb (issue_cycle rows h + d) c (grind (arith, contains_from))))))

pub ready_rises_where : (counts : Counts) (lat : Latencies) (ops : List Op) (rows : List Row) (c : ℕ)
    → Rises (ready_where counts lat ops rows c)
ready_rises_where counts lat ops rows c = grind (arith, ordered_filter, rises_range)

-- below cycle c operation i is issued at the same cycle by both lists of rows, or by neither
abbrev pub SameBelow : List Row → List Row → ℕ → ℕ → Type 0
SameBelow rows rows' c i = (issue_cycle rows i ≡ issue_cycle rows' i)
    ⊎ ((c ≤ issue_cycle rows i) × (c ≤ issue_cycle rows' i))

all_agree : {X : Type 0} → (p q : X → Bool) (xs : List X) → ((x : X) → In xs x → p x ≡ q x)
    → list_all p xs ≡ list_all q xs
all_agree p q [] same = refl
all_agree p q (x ∷ xs) same = grind (arith, all_agree p q xs)

-- what is ready at cycle c depends on what is issued before it
pub ready_same : (counts : Counts) (lat : Latencies) (ops : List Op) (rows rows' : List Row) (c : ℕ)
    → ((i : ℕ) → SameBelow rows rows' c i) → ready_where counts lat ops rows c ≡ ready_where counts lat ops rows' c
ready_same counts lat ops rows rows' c same = filter_agree (is_ready_where counts lat ops rows c) (is_ready_where counts lat ops rows' c) each
    (range_with_len 0 (length ops))
  where
    waiting : (i : ℕ) → nat_le c (issue_cycle rows i) ≡ nat_le c (issue_cycle rows' i)
    waiting i = elim (same i) [
      | inl one ↦ ap (nat_le c) one
      | inr none ↦ le-leb c (issue_cycle rows i) none.0 ∙ sym (le-leb c (issue_cycle rows' i) none.1)
    ]

    over : (i h d : ℕ) → In (delays_where (counts h i) lat (op_at ops h) (op_at ops i)) d
        → is_over rows c h d ≡ is_over rows' c h d
    over i h d there =
        let some : 1 ≤ d = delay_at_least_where (counts h i) lat (op_at ops h) (op_at ops i) d (contains_from _ d there) in
        elim (same h) [
          | inl one ↦ ap (λ t. nat_le (t + d) c) one
          | inr none ↦
              let first : c ≤ issue_cycle rows h = none.0 in
              let second : c ≤ issue_cycle rows' h = none.1 in
              lt-leb (issue_cycle rows h + d) c (omega arith) ∙ sym (lt-leb (issue_cycle rows' h + d) c (omega arith))
        ]

    each : (i : ℕ) → is_ready_where counts lat ops rows c i ≡ is_ready_where counts lat ops rows' c i
    each i =
        ap (λ b. b && list_all (all_over_where counts lat ops rows c i) (range_with_len 0 i)) (waiting i)
        ∙ ap (λ b. nat_le c (issue_cycle rows' i) && b)
        (all_agree (all_over_where counts lat ops rows c i) (all_over_where counts lat ops rows' c i) (range_with_len 0 i) (λ h there.
        all_agree (is_over rows c h) (is_over rows' c h) (delays_where (counts h i) lat (op_at ops h) (op_at ops i)) (over i h)))

-- one more row changes nothing of what was ready by then
pub ready_kept : (counts : Counts) (lat : Latencies) (ops : List Op) (rows : List Row) (row : Row) (c : ℕ) → c ≤ length rows
    → ready_where counts lat ops (rows ++ row ∷ []) c ≡ ready_where counts lat ops rows c
ready_kept counts lat ops rows row c so_far = ready_same counts lat ops (rows ++ row ∷ []) rows c same
  where
    same : (i : ℕ) → SameBelow (rows ++ row ∷ []) rows c i
    same i = elim (cases_lt (issue_cycle rows i) (length rows)) [
      | inl issued ↦ inl (issue_cycle_front rows (row ∷ []) i issued)
      | inr waits ↦
          let back : issue_cycle (rows ++ row ∷ []) i ≡ length rows + issue_cycle (row ∷ []) i =
          issue_cycle_back rows (row ∷ []) i waits in
          inr ((subst (λ n. c ≤ n) (sym back) (omega arith)), omega arith)
    ]

-- the same where all count
abbrev pub IsReady : Latencies → List Op → List Row → ℕ → ℕ → Type 0
IsReady = IsReadyWhere all_count

pub ready_means : (lat : Latencies) (ops : List Op) (rows : List Row) (c i : ℕ) → In (ready lat ops rows c) i
    → IsReady lat ops rows c i
ready_means = ready_means_where all_count

pub ready_from : (lat : Latencies) (ops : List Op) (rows : List Row) (c i : ℕ) → IsReady lat ops rows c i
    → In (ready lat ops rows c) i
ready_from = ready_from_where all_count

pub ready_rises : (lat : Latencies) (ops : List Op) (rows : List Row) (c : ℕ) → Rises (ready lat ops rows c)
ready_rises = ready_rises_where all_count
