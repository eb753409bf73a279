-- Until rows leave the greedy choice they take what the greedy schedule takes; for `departure_of`.
use Rattle.iloc_row_commands.proofs.Common.{◌≡◌, ℕ, zero, suc, ◌+◌, ◌<◌, ◌≤◌, max, Bool, true, false, not, ◌⊎◌, List, [], ◌∷◌, length, Some, None, fold, Option, option_map, find, sym, refl, ap, ◌∙◌, inl, inr, true≢false, arith, list_all, range_with_len, Op, cycles, holds, issue_cycle, row_at, slots, Latencies, IsGreedyBy, chosen, ready, choice_at, departure, leaves_choice, take_the_same}
use Rattle.std.proofs.lemmas.Bool.{and_parts, cases_eq, cases_lt, not-false}
use Rattle.std.proofs.lemmas.Option.{none-some}
use Rattle.iloc_meaning.specs.Trace.{op_at}
use Rattle.iloc_meaning.proofs.Cases.{by_bool}
use Rattle.iloc_timed.specs.declared.row.Row.{Row}
use Rattle.iloc_timed.specs.Latency.{latency}
use Rattle.iloc_rules.specs.Delays.{all_count}
use Rattle.iloc_rules.specs.Lawful.{IsLawful}
use Rattle.iloc_rules.specs.Steps.Members.{In}
use Rattle.iloc_rules.proofs.Basics.IssueCycles.{issued_by, row_at_past}
use Rattle.iloc_rules.proofs.Basics.Members.{empty_from, from_all, from_range, map_same}
use Rattle.iloc_rules.proofs.Basics.Slots.{cycle_is, from_holds, holds_from, issued_within, stands_there}
use Rattle.iloc_rules.proofs.Choice.Ready.{SameBelow, ready_means, ready_same}

-- what one of two such rows holds, the other does
pub held_alike : (row other : Row) (i : ℕ) → take_the_same row other ≡ true → holds row i ≡ holds other i
held_alike row other i same =
    let both = and_parts (list_all (holds other) (slots row)) (list_all (holds row) (slots other)) same in
    by_bool (holds row i)
    (λ t. t ∙ sym (from_all (holds other) (slots row) i both.0 (from_holds row i t)))
    (λ f. by_bool (holds other i)
    (λ t. absurd (true≢false (sym (from_all (holds row) (slots other) i both.1 (from_holds other i t)) ∙ f)))
    (λ u. f ∙ sym u))

-- before cycle c these rows take the same
abbrev AlikeBelow : List Row → List Row → ℕ → Type 0
AlikeBelow rows others c = (k : ℕ) → k < c → take_the_same (row_at rows k) (row_at others k) ≡ true

cycles_alike : (rows others : List Row) (c i : ℕ) → c ≤ length rows → c ≤ length others → AlikeBelow rows others c
    → SameBelow rows others c i
cycles_alike rows others zero i within within' same = inr (omega arith, omega arith)
cycles_alike [] others (suc c) i within within' same = absurd (omega arith)
cycles_alike (row ∷ rows) [] (suc c) i within within' same = absurd (omega arith)
cycles_alike (row ∷ rows) (other ∷ others) (suc c) i within within' same =
    let first : holds row i ≡ holds other i = held_alike row other i (same 0 (omega arith)) in
    by_bool (holds row i)
    (λ t. let also : holds other i ≡ true = sym first ∙ t in rw (t, also) (inl refl))
    (λ t.
    let also : holds other i ≡ false = sym first ∙ t in
    rw (t, also) (next (cycles_alike rows others c i (omega arith) (omega arith)
    (λ k below. same (suc k) (omega arith)))))
  where
    next : SameBelow rows others c i → (issue_cycle rows i + 1 ≡ issue_cycle others i + 1)
        ⊎ ((suc c ≤ issue_cycle rows i + 1) × (suc c ≤ issue_cycle others i + 1))
    next (inl one) = inl (ap (λ n. n + 1) one)
    next (inr none) = inr (
      let first : c ≤ issue_cycle rows i = none.0 in
          omega arith,
      let second : c ≤ issue_cycle others i = none.1 in omega arith,
    )

-- two tests that agree up to the first number that passes find the same
find_alike : {X : Type 0} → (p q : ℕ → Bool) (f g : ℕ → X) (a n : ℕ) → ((b : ℕ) → b < a → p b ≡ false)
    → ((c : ℕ) → c < a + n → ((b : ℕ) → b < c → p b ≡ false) → (q c ≡ p c) × (g c ≡ f c))
    → option_map f (find p (range_with_len a n)) ≡ option_map g (find q (range_with_len a n))
find_alike p q f g a zero none agree = refl
find_alike p q f g a (suc n) none agree =
    let here = agree a (omega arith) none in
    by_bool (p a)
    (λ t. let also : q a ≡ true = here.0 ∙ t in rw (t, also, here.1) refl)
    (λ t.
    let also : q a ≡ false = here.0 ∙ t in
    rw (t, also) (find_alike p q f g (a + 1) n
    (λ b below. elim (cases_lt b a) [
      | inl before ↦ none b before
      | inr last ↦ let same : b ≡ a = omega arith in ap p same ∙ t
    ])
    (λ c within. agree c (omega arith))))

-- where nothing is found, no number passes
find_none : (p : ℕ → Bool) (a n : ℕ) → find p (range_with_len a n) ≡ None → (c : ℕ) → a ≤ c → c < a + n → p c ≡ false
find_none p a zero none c above below = absurd (omega arith)
find_none p a (suc n) none c above below =
    by_bool (p a)
    (λ t. absurd (none-some a (sym (rw t at none))))
    (λ t. elim (cases_eq a c) [
      | inl same ↦ ap p (sym same) ∙ t
      | inr apart ↦ find_none p (a + 1) n (rw t at none) c (omega arith) (omega arith)
    ])

map_none : {X Y : Type 0} → (f : X → Y) (o : Option X) → option_map f o ≡ None → o ≡ None
map_none f None none = refl
map_none f (Some x) none = absurd (none-some (f x) (sym none))

module _ (prios : List ℕ) (lat : Latencies) (block ops : List Op) (rows ours : List Row)
    (greedy : IsGreedyBy prios lat block ops ours) where
  -- where ours have ended, nothing is ready
  none_ready : (c i : ℕ) → length ours ≤ c → AlikeBelow rows ours c → In (ready lat ops rows c) i → ⊥
  none_ready c i past alike there =
      let is = ready_means lat ops rows c i there in
      let waiting : c ≤ issue_cycle rows i = is.waiting in
      let within : issue_cycle ours i < length ours = issued_within ops ours greedy.lawful.table i is.within in
      let held = alike (issue_cycle ours i) (omega arith) in
      let early : issue_cycle rows i ≤ issue_cycle ours i = issued_by rows (issue_cycle ours i) i
      (from_holds _ i (held_alike _ _ i held ∙ holds_from _ i (stands_there ours i within))) in
      omega arith

  choice_is_ours : (c : ℕ) → c < length rows → AlikeBelow rows ours c → choice_at prios lat ops rows c ≡ row_at ours c
  choice_is_ours c within alike = elim (cases_lt c (length ours)) [
    | inl below ↦
        ap (chosen ops prios) (ready_same all_count lat ops rows ours c (λ i. cycles_alike rows ours c i (omega arith) (omega arith) alike))
        ∙ sym (greedy.each c below)
    | inr past ↦
        ap (chosen ops prios) (empty_from (ready lat ops rows c) (λ i there. none_ready c i past alike there))
        ∙ sym (row_at_past ours c past)
  ]

  -- the first row that isn't as ours is the one that leaves the choice
  pub first_departure : option_map (λ c. record { row = c; choice = row_at ours c })
      (find (λ c. not (take_the_same (row_at rows c) (row_at ours c))) (range_with_len 0 (length rows)))
      ≡ departure prios lat ops rows
  first_departure = find_alike (λ c. not (take_the_same (row_at rows c) (row_at ours c))) (leaves_choice prios lat ops rows)
      (λ c. record { row = c; choice = row_at ours c }) (λ c. record { row = c; choice = choice_at prios lat ops rows c })
      0 (length rows) (λ b below. absurd (omega arith))
      (λ c within none.
      let same = choice_is_ours c (omega arith) (λ k below. not-false _ (none k below)) in
      (ap (λ row. not (take_the_same (row_at rows c) row)) same, ap (λ row. record { row = c; choice = row }) same))

  -- where no row leaves the choice, each takes what ours does
  all_alike : departure prios lat ops rows ≡ None → AlikeBelow rows ours (length rows)
  all_alike stays k below = not-false _ (find_none _ 0 (length rows)
      (map_none _ _ (first_departure ∙ stays)) k (omega arith) (omega arith))

  module _ (lawful : IsLawful lat block ops rows) (stays : departure prios lat ops rows ≡ None) where
    -- and issues in its cycle
    issued_alike : (i : ℕ) → i < length ops → issue_cycle rows i ≡ issue_cycle ours i
    issued_alike i known =
        let within : issue_cycle rows i < length rows = issued_within ops rows lawful.table i known in
        let held = held_alike _ _ i (all_alike stays (issue_cycle rows i) within) in
        sym (cycle_is ops ours greedy.lawful.table (issue_cycle rows i) i
        (from_holds _ i (sym held ∙ holds_from _ i (stands_there rows i within))))

    pub our_cycles : cycles lat ops rows ≡ cycles lat ops ours
    our_cycles = ap (fold max 0) (map_same (λ i. issue_cycle rows i + latency lat (op_at ops i))
        (λ i. issue_cycle ours i + latency lat (op_at ops i)) (range_with_len 0 (length ops))
        (λ i there.
        let bounds : (0 ≤ i) × (i < 0 + length ops) = from_range 0 (length ops) i there in
        ap (λ c. c + latency lat (op_at ops i)) (issued_alike i (omega arith))))
