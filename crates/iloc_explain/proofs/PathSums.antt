-- The stretches of the path of a lawful schedule take its cycles together.
use Rattle.iloc_explain.proofs.Common.{◌≡◌, ℕ, ◌+◌, ◌-◌, ◌<◌, ◌≤◌, List, [], ◌∷◌, ◌++◌, reverse, length, sym, refl, ap, ◌∙◌, inl, inr, arith, reverse-append, sum_by-cons, sum_by_push, sum_by, Op, op_at, issued_within, cycles, latency, issue_cycle, Latencies, MemoryRule, Row, IsLawfulWhere, counts_by, Binds, LeadBack, origin, span, IsReadyAt, Delay, Free, Held}
use Rattle.iloc_explain.specs.declared.path.Stretch.{Stretch}
use Rattle.iloc_explain.specs.Laws.{PathsSumToTheCycles}
use Rattle.iloc_explain.proofs.OneReadyCycle.{ready_same}
use Rattle.iloc_explain.proofs.Stretches.{binds_from, binds_long, kept_by}

pub sum_by_reverse : (f : Stretch → ℕ) (xs : List Stretch) → sum_by f (reverse xs) ≡ sum_by f xs
sum_by_reverse f [] = refl
sum_by_reverse f (x ∷ xs) =
    let turned : reverse (x ∷ xs) ≡ reverse xs ++ x ∷ [] = reverse-append (x ∷ []) xs in
    let rest : sum_by f (reverse xs) ≡ sum_by f xs = sum_by_reverse f xs in
    let last : sum_by f (reverse xs ++ x ∷ []) ≡ sum_by f (reverse xs) + f x = sum_by_push f (reverse xs) x in
    let first : sum_by f (x ∷ xs) ≡ f x + sum_by f xs = sum_by-cons f x xs in
    ap (sum_by f) turned ∙ omega arith

module _ (rule : MemoryRule) (lat : Latencies) (block ops : List Op) (rows : List Row) (lawful : IsLawfulWhere (counts_by rule ops) lat block ops rows) where
  -- an operation is issued once it is ready
  pub ready_by_issue : (j r : ℕ) → IsReadyAt rule lat ops rows j r → r ≤ issue_cycle rows j
  ready_by_issue j r ready = elim ready.earliest [
    | inl start ↦ omega arith
    | inr (i, waits) ↦
        let ends : issue_cycle rows i + waits.delay ≡ r = waits.ends in
        let waited : issue_cycle rows i + waits.delay ≤ issue_cycle rows j = lawful.waits i j waits.delay waits.pair in
        omega arith
  ]

  -- and so is it where a stretch begins
  ready_before : (j c : ℕ) (s : Stretch) → j < length ops → c ≤ issue_cycle rows j → Binds rule lat ops rows j c s → (r : ℕ)
      → IsReadyAt rule lat ops rows (origin s j) r → r ≤ c - span s
  ready_before j c (Delay i d) known within (ready, first, sum) r also =
      let before : r ≤ issue_cycle rows i = ready_by_issue i r also in omega arith
  ready_before j c (Held h) known within (q, ready, later, is) r also =
      let last : issue_cycle rows j < length rows = issued_within ops rows j known lawful.table in
      let there = kept_by ops rows j (c - 1) h lawful.table (omega arith) is in
      let at : issue_cycle rows h ≡ c - 1 = there.1 in
      let before : r ≤ issue_cycle rows h = ready_by_issue h r also in
      omega arith
  ready_before j c (Free n) known within (q, ready, had) r also =
      let same : r ≡ q = ready_same rule lat ops rows j r q also ready in
      let far : q + n ≤ c = had.ready in
      omega arith

  leads_sum : (j c : ℕ) (back : List Stretch) → j < length ops → c ≤ issue_cycle rows j
      → ((r : ℕ) → IsReadyAt rule lat ops rows j r → r ≤ c) → LeadBack rule lat ops rows j c back → sum_by span back ≡ c
  leads_sum j c [] known within before (inl start) = sym start
  leads_sum j c [] known within before (inr (r, ready, early)) =
      absurd (let low : r ≤ c = before r ready in omega arith)
  leads_sum j c (s ∷ back) known within before (binds, leads) =
      let place = binds_from rule lat ops rows j c s lawful.table known within binds in
      let long = binds_long rule lat ops rows j c s binds in
      let most : span s ≤ c = long.1 in
      let rest : sum_by span back ≡ c - span s =
      leads_sum (origin s j) (c - span s) back place.0 place.1 (ready_before j c s known within binds) leads in
      let all : sum_by span (s ∷ back) ≡ span s + sum_by span back = sum_by-cons span s back in
      omega arith

pub paths_sum : PathsSumToTheCycles
paths_sum rule lat block [] rows path lawful is = rw is refl
paths_sum rule lat block (op ∷ ops) rows path lawful (j, back, last, leads, turned) =
    let rest : sum_by span back ≡ issue_cycle rows j =
    leads_sum rule lat block (op ∷ ops) rows lawful j (issue_cycle rows j) back last.known (omega arith)
    (ready_by_issue rule lat block (op ∷ ops) rows lawful j) leads in
    let whole : List Stretch = Delay j (latency lat (op_at (op ∷ ops) j)) ∷ back in
    let same : sum_by span path ≡ sum_by span whole = ap (sum_by span) turned ∙ sum_by_reverse span whole in
    let all : sum_by span whole ≡ latency lat (op_at (op ∷ ops) j) + sum_by span back =
    sum_by-cons span (Delay j (latency lat (op_at (op ∷ ops) j))) back in
    let ends : issue_cycle rows j + latency lat (op_at (op ∷ ops) j) ≡ cycles lat (op ∷ ops) rows = last.last in
    omega arith
