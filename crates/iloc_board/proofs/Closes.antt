-- What a closed board shows.
use Rattle.iloc_board.proofs.Common.{◌≡◌, ℕ, zero, suc, ◌+◌, ◌<◌, ◌≤◌, Bool, true, false, ◌||◌, ◌≢◌, ◌⊎◌, List, [], ◌∷◌, map, length, replicate, ◌==◌, slice_get, slice_index, slice_index_or, slice_set, Some, None, All, Contains, Option, sym, refl, ap, ◌∙◌, subst, inl, inr, arith, length-set, eq-eqb, ne_eqb, eqb-true, and_from, and_parts, cases_eq, cases_lt, or_cases, or_from, or_left, or_right, get_or_default, length-map, length-replicate, All-cons, All-head, All-nil, All-tail, Contains-append_cases, Contains-append_left, Contains-append_right, list_any-append, list_any, range_with_len, AllMade, AreTheAnswers, FitsHandedBack, IsFirstMissing, IsLegalWith, IsNoMemory, IsWhole, MissingOf, NoneTwice, handed_back_in, jobs_of, workers_of, Core, after, is_holding, opening, played, reply_to, worker_of, taken_by, takes, all_handed, entries_of, handed, saw_none, seen, state_of, final, is_out, is_pair, HoleOf, IsFirstHole, placed, Apart, FitsRoot, IsKept, Sat, TableState, Tells, AllFit, BoardView, RootView, priced, Holding, Entry, Journal, Reply, Step}
use Rattle.std.proofs.lemmas.Option.{slice_get_within, get_or_from_slice_get}
use mathlib.Core.Option.{some, some-injective, some-ne-none}
use lib.ListN.{get_elem?}
use Rattle.iloc_board.specs.declared.board.seat_view.Role.TheVariants.{Root}
use Rattle.iloc_board.specs.Steps.Inside.{IsRoot}
use Rattle.iloc_board.specs.Steps.Closing.{IsClosed}
use Rattle.iloc_board.specs.declared.collect.CollectFault.{CollectFault}
use Rattle.iloc_board.specs.declared.collect.CollectFault.TheVariants.{Missing, NoMemory}
use Rattle.iloc_board.proofs.Runs.{length-costs_final}
use Rattle.iloc_board.proofs.Taking.{begins}
use Rattle.iloc_board.proofs.Laws as laws
use Rattle.iloc_board.proofs.Parts.{told_none}
use Rattle.iloc_board.proofs.Lists.{contains_none, contains_here, contains_later, contains_cases, get_set_same, get_set_other, none_twice-append}
use Rattle.iloc_board.proofs.Retires.{Retired, retired_final}

module _ {B : Type 0} where
  set_cases : (l : List B) (i j : ℕ) (b y : B) → slice_get (slice_set l i b) j ≡ Some y → ((j ≡ i) × (b ≡ y))
      ⊎ (slice_get l j ≡ Some y)
  set_cases (x ∷ xs) zero zero b y e = inl (refl, cc)
  set_cases (x ∷ xs) (suc i) (suc j) b y e = grind (arith, set_cases xs i j b y e)
  set_cases l i j b y e = inr e

  mapped : (xs : List B) (i : ℕ) (b : B) → slice_get xs i ≡ Some b → slice_get (map (λ x. Some x) xs) i ≡ Some (Some b)
  mapped [] i b e = absurd (cc)
  mapped (x ∷ xs) zero b e = ap (λ z. Some z) e
  mapped (x ∷ xs) (suc i) b e = mapped xs i b e

module _ {A : Type 0} where
  -- the row of answers
  pub length-placed : (row : List (Option A)) (xs : List (ℕ × A)) → length (placed row xs) ≡ length row
  length-placed row [] = refl
  length-placed row (x ∷ xs) = length-placed (slice_set row x.0 (Some x.1)) xs ∙ length-set row x.0 (Some x.1)

  pub placed_has : (row : List (Option A)) (xs : List (ℕ × A)) (i : ℕ) (a : A) → slice_get (placed row xs) i ≡ Some (Some a)
      → Contains xs (i, a) ⊎ (slice_get row i ≡ Some (Some a))
  placed_has row [] i a e = inr e
  placed_has row (x ∷ xs) i a e = grind (arith, contains_here, contains_later, set_cases, placed_has (slice_set row x.0 (Some x.1)) xs i a e)

  some_stays : (row : List (Option A)) (xs : List (ℕ × A)) (i : ℕ) (a : A) → slice_get row i ≡ Some (Some a)
      → (b : A) × (slice_get (placed row xs) i ≡ Some (Some b))
  some_stays row [] i a e = (a, e)
  some_stays row (x ∷ xs) i a e =
      elim (cases_eq i x.0) [
        | inl p ↦ some_stays (slice_set row x.0 (Some x.1)) xs i x.1
            (ap (λ k. slice_get (slice_set row x.0 (Some x.1)) k) p
            ∙ get_set_same row x.0 (Some x.1) (let lt : i < length row = slice_get_within row i (Some a) e in
            omega arith))
        | inr ne ↦ some_stays (slice_set row x.0 (Some x.1)) xs i a (get_set_other row x.0 i (Some x.1) ne ∙ e)
      ]

  pub placed_some : (row : List (Option A)) (xs : List (ℕ × A)) (i : ℕ) (a : A) → i < length row → Contains xs (i, a)
      → (b : A) × (slice_get (placed row xs) i ≡ Some (Some b))
  placed_some row [] i a lt h = absurd (contains_none (i, a) h)
  placed_some row (x ∷ xs) i a lt h =
      elim (contains_cases x xs (i, a) h) [
        | inl e ↦
            let job : x.0 ≡ i = ap (λ (z : ℕ × A). z.0) e in
            some_stays (slice_set row x.0 (Some x.1)) xs i x.1
            (ap (λ k. slice_get (slice_set row x.0 (Some x.1)) k) (sym job)
            ∙ get_set_same row x.0 (Some x.1) (omega arith))
        | inr r ↦ placed_some (slice_set row x.0 (Some x.1)) xs i a (let e : length (slice_set row x.0 (Some x.1))
            ≡ length row = length-set row x.0 (Some x.1) in omega arith) r
      ]

  pub none_placed : (n i : ℕ) (a : A) → slice_get (replicate n None) i ≡ Some (Some a) → ⊥
  none_placed (suc n) (suc i) a e = none_placed n i a e
  none_placed n i a e = absurd (cc)

  -- an answer and its cost
  priced_has : (price : A → ℕ) (xs : List (ℕ × A)) (k c : ℕ) → Contains (priced price xs) (k, c)
      → (a : A) × Contains xs (k, a)
  priced_has price [] k c h = absurd (contains_none (k, c) h)
  priced_has price (x ∷ xs) k c h =
      elim (contains_cases (x.0, price x.1) (priced price xs) (k, c) h) [
        | inl e ↦ (x.1, contains_here x xs (k, x.1) (λ i. (ap (λ (z : ℕ × ℕ). z.0) e i, x.1)))
        | inr r ↦ let p = priced_has price xs k c r in (p.0, contains_later x xs (k, p.0) p.1)
      ]

  has_priced : (price : A → ℕ) (xs : List (ℕ × A)) (k : ℕ) (a : A) → Contains xs (k, a)
      → Contains (priced price xs) (k, price a)
  has_priced price [] k a h = absurd (contains_none (k, a) h)
  has_priced price (x ∷ xs) k a h =
      let first : ℕ × ℕ = (x.0, price x.1) in
      elim (contains_cases x xs (k, a) h) [
        | inl e ↦ contains_here first (priced price xs) (k, price a) (ap (λ (z : ℕ × A). (z.0, price z.1)) e)
        | inr r ↦ contains_later first (priced price xs) (k, price a) (has_priced price xs k a r)
      ]

  fits_has : (fits : ℕ → A → Type 0) (xs : List (ℕ × A)) (k : ℕ) (a : A) → AllFit fits xs → Contains xs (k, a)
      → fits k a
  fits_has fits [] k a f h = absurd (contains_none (k, a) h)
  fits_has fits (x ∷ xs) k a f h =
      elim (contains_cases x xs (k, a) h) [
        | inl e ↦ rw e at f.0
        | inr r ↦ fits_has fits xs k a f.1 r
      ]

  jobs_priced : (price : A → ℕ) (xs : List (ℕ × A)) → jobs_of (priced price xs) ≡ jobs_of xs
  jobs_priced price [] = refl
  jobs_priced price (x ∷ xs) = ap (λ t. x.0 ∷ t) (jobs_priced price xs)

  pub said_fits : (fits : ℕ → A → Type 0) (xs : List (ℕ × A)) → AllFit fits xs → (k cost : ℕ)
      → FitsHandedBack fits k (handed_back_in xs k cost)
  said_fits fits [] f k cost = tt
  said_fits fits (x ∷ xs) f k cost = grind (arith, eqb-true, said_fits fits xs f.1 k cost)

-- Journals by their places

all_from : (P : Journal → Type 0) (js : List Journal) → ((i : ℕ) (j : Journal) → get_elem? js i ≡ some j → P j)
    → All P js
all_from P [] each = All-nil P
all_from P (j ∷ js) each = All-cons P j js (each 0 j refl) (all_from P js (λ i k e. each (suc i) k e))

at_place : (P : Journal → Type 0) (js : List Journal) (i : ℕ) (j : Journal) → All P js → get_elem? js i ≡ some j → P j
at_place P [] i j each e = absurd (some-ne-none j (sym e))
at_place P (k ∷ js) zero j each e = subst P (some-injective k j e) (All-head P k js each)
at_place P (k ∷ js) (suc i) j each e = at_place P js i j (All-tail P k js each) e

-- where no worker stands at two places, none stands twice
other_workers : (w : ℕ) (js : List Journal) → ((i : ℕ) (j : Journal) → get_elem? js i ≡ some j → w ≢ j.worker)
    → list_any (λ y. w == y) (workers_of js) ≡ false
other_workers w [] other = refl
other_workers w (j ∷ js) other = or_from (w == j.worker) _ (ne_eqb w j.worker (other 0 j refl))
    (other_workers w js (λ i k e. other (suc i) k e))

none_twice_from : (js : List Journal) → Apart js → NoneTwice (workers_of js)
none_twice_from [] apart = tt
none_twice_from (j ∷ js) apart = (
  other_workers j.worker js (λ i k e same. let q : 0 ≡ suc i = apart 0 (suc i) j k refl e same in omega arith),
  none_twice_from js (λ a b x y e f g. let q : suc a ≡ suc b = apart (suc a) (suc b) x y e f g in omega arith),
)

-- the place of a worker's journal
place_of : (js : List Journal) (w : ℕ) → Contains (workers_of js) w → (i : ℕ) × (j : Journal)
    × (get_elem? js i ≡ some j) × (j.worker ≡ w)
place_of [] w h = absurd (contains_none w h)
place_of (j ∷ js) w h =
    elim (contains_cases j.worker (workers_of js) w h) [
      | inl e ↦ (0, j, refl, e)
      | inr rest ↦ let r = place_of js w rest in (suc r.0, r.1, r.2, r.3)
    ]

-- the place of a journal that passes a test
place_of_any : (test : Journal → Bool) (js : List Journal) → list_any test js ≡ true → (i : ℕ) × (j : Journal)
    × (get_elem? js i ≡ some j) × (test j ≡ true)
place_of_any test [] h = absurd (cc)
place_of_any test (j ∷ js) h =
    elim (or_cases (test j) (list_any test js) h) [
      | inl e ↦ (0, j, refl, e)
      | inr rest ↦ let r = place_of_any test js rest in (suc r.0, r.1, r.2, r.3)
    ]

-- the journals and all that they handed back
all_has : (js : List Journal) (p : ℕ × ℕ) → Contains (all_handed js) p → (i : ℕ) × (j : Journal)
    × (get_elem? js i ≡ some j) × Contains (handed j.entries) p
all_has [] p h = absurd (contains_none p h)
all_has (j ∷ js) p h =
    elim (Contains-append_cases (handed j.entries) (all_handed js) p h) [
      | inl q ↦ (0, j, refl, q)
      | inr q ↦ let r = all_has js p q in (suc r.0, r.1, r.2, r.3)
    ]

has_all : (js : List Journal) (i : ℕ) (j : Journal) (p : ℕ × ℕ) → get_elem? js i ≡ some j
    → Contains (handed j.entries) p → Contains (all_handed js) p
has_all [] i j p e h = absurd (some-ne-none j (sym e))
has_all (k ∷ js) zero j p e h = Contains-append_left (handed k.entries) (all_handed js) p (rw (some-injective k j e) h)
has_all (k ∷ js) (suc i) j p e h = Contains-append_right (handed k.entries) (all_handed js) p (has_all js i j p e h)

-- each job was handed back once
handed_once : (c : Core) (taken : List (ℕ × ℕ)) (es : List Entry) → Retired c taken es → (js : List Journal) → Apart js
    → ((i : ℕ) (j : Journal) → get_elem? js i ≡ some j → entries_of j.worker es ≡ j.entries)
    → NoneTwice (jobs_of (all_handed js))
handed_once c taken es h [] apart own = tt
handed_once c taken es h (j ∷ js) apart own =
    let mine : handed (entries_of j.worker es) ≡ handed j.entries = ap handed (own 0 j refl) in
    none_twice-append (handed j.entries) (all_handed js)
    (rw mine at (h.twice j.worker))
    (handed_once c taken es h js (λ a b x y e f g. let q : suc a ≡ suc b = apart (suc a) (suc b) x y e f g in
    omega arith) (λ i k e. own (suc i) k e))
    (λ k a b x y.
    let r = all_has js (k, b) y in
    let same : j.worker ≡ r.1.worker = h.one j.worker r.1.worker k a b (rw mine x)
    (rw (ap handed (own (suc r.0) r.1 r.2)) r.3) in
    let q : 0 ≡ suc r.0 = apart 0 (suc r.0) j r.1 refl r.2 same in absurd (omega arith))

-- who took a job
took_from : (i : ℕ) (ps : List (ℕ × ℕ)) (a n : ℕ) → map (λ p. p.1) ps ≡ range_with_len a n → a ≤ i → i < a + n
    → (w : ℕ) × (is_out w i ps ≡ true)
took_from i [] a (suc n) e low high = absurd (cc)
took_from i (p ∷ ps) a (suc n) e low high =
    let first : p.1 ≡ a = cc in
    let rest : map (λ (q : ℕ × ℕ). q.1) ps ≡ range_with_len (a + 1) n = cc in
    elim (cases_eq i a) [
      | inl here ↦ (
        p.0,
        or_left (is_pair p.0 i p) _
            (and_from (p.0 == p.0) (i == p.1) (eq-eqb p.0 p.0 refl) (eq-eqb i p.1 (here ∙ sym first))),
      )
      | inr ne ↦ let r = took_from i ps (a + 1) n rest (omega arith) (omega arith) in
          (r.0, or_right (is_pair r.0 i p) _ r.1)
    ]
took_from i ps a zero e low high = absurd (omega arith)

taker_is : (w k v : ℕ) (r : Reply) → is_out w k (taken_by v r) ≡ true → w ≡ v
taker_is w k v r e = grind (arith, and_parts, eqb-true, or_cases)

taker_made : (count made w k : ℕ) (xs : List Step) (c : Core) → AllMade made xs → is_out w k (takes (played count c xs))
    ≡ true → w < made
taker_made count made w k [] c h e = absurd (cc)
taker_made count made w k (x ∷ xs) c h e =
    let r : Reply = reply_to count c x in
    let f : (is_out w k (taken_by (worker_of x) r) || is_out w k (takes (played count (after count c x) xs))) ≡ true =
    sym (list_any-append (is_pair w k) (taken_by (worker_of x) r) (takes (played count (after count c x) xs)))
    ∙ e in
    elim (or_cases _ _ f) [
      | inl p ↦ let same : w ≡ worker_of x = taker_is w k (worker_of x) r p in let lt : worker_of x < made = h.0 in
          omega arith
      | inr p ↦ taker_made count made w k xs (after count c x) h.1 p
    ]

there : {A : Type 0} (xs : List A) (n : ℕ) → n < length xs → (a : A) × (slice_get xs n ≡ Some a)
there [] n lt = absurd (omega arith)
there (x ∷ xs) zero lt = (x, refl)
there (x ∷ xs) (suc n) lt = there xs n (omega arith)

past : {A : Type 0} (xs : List A) (n : ℕ) → n < length xs → ((i : ℕ) (a : A) → slice_get xs i ≡ Some a → i < n) → ⊥
past xs n lt low = let q = there xs n lt in let h : n < n = low n q.0 q.1 in absurd (omega arith)

-- where each job below the count is below the next, all are taken
all_taken : {A : Type 0} (count n : ℕ) (answers : List A) → length answers ≡ count → n ≤ count
    → ((i : ℕ) (a : A) → slice_get answers i ≡ Some a → i < n) → n ≡ count
all_taken count n answers long up low =
    elim (cases_lt n count) [
      | inl lt ↦ absurd (past answers n (omega arith) low)
      | inr le ↦ omega arith
    ]

module _ {J A : Type 0} (count : ℕ) (fits : ℕ → A → Type 0) (price : A → ℕ) where
  pub closes : (id : ℕ) (me : Sat) (r : RootView J A) → IsRoot count fits price me r
      → (s : TableState) (k : IsKept count s) → get_elem? s.views id ≡ some me.0 → IsClosed count fits price r k.steps
  closes id me r h s k at =
      let role : me.0.role ≡ Root = ap (λ (m : Sat). m.0.role) h.seat in
      let made : me.0.made ≡ r.made = ap (λ (m : Sat). m.0.made) h.seat in
      let gathered : me.0.gathered ≡ r.gathered = ap (λ (m : Sat). m.0.gathered) h.seat in
      let mine : FitsRoot count k.made k.steps s.views id me.0 = (k.fits id me.0 at).1 role in
      let tells : (i : ℕ) (j : Journal) → get_elem? r.gathered i ≡ some j → Tells count k.steps j =
      rw (← gathered) (λ i j e. (mine.gathered i j e).0) in
      let apart : Apart r.gathered = rw gathered at mine.apart in
      record {
        one_list = record {
          below = rw (sym mine.made_is ∙ made) at k.below;
          answered = k.answered;
          journals = all_from (λ j. entries_of j.worker (played count (opening count) k.steps) ≡ j.entries) r.gathered
              (λ i j e. (tells i j e).entries);
          apart = none_twice_from r.gathered apart;
          exact = laws.exact_play count k.steps;
          once = laws.once count k.steps;
        };
        tells = tells;
        apart = apart;
        fitting = record { fit = h.fit; each = h.each };
      }

  module _ (r : RootView J A) (steps : List Step) (c : IsClosed count fits price r steps) where
    -- an answer that was gathered, as its worker handed it back
    its : (k : ℕ) (a : A) → Contains r.answers (k, a)
        → (w : ℕ) × Contains (handed (entries_of w (played count (opening count) steps))) (k, price a)
    its k a h =
        let P : List (ℕ × ℕ) → Type 0 = λ q. Contains q (k, price a) in
        let q = all_has r.gathered (k, price a) (subst P c.fitting.each (has_priced price r.answers k a h)) in
        (q.1.worker, subst P (sym (ap handed (c.tells q.0 q.1 q.2).entries)) q.3)

    pub legal : IsLegalWith fits r.answers count steps
    legal = (laws.whole (FitsHandedBack fits) (handed_back_in r.answers) (said_fits fits r.answers c.fitting.fit) count steps).0

    pub each_once : NoneTwice (jobs_of r.answers)
    each_once =
        rw (sym (ap (λ q. jobs_of q) c.fitting.each) ∙ jobs_priced price r.answers) at
        (handed_once (final count steps) _ (played count (opening count) steps) (retired_final count steps)
        r.gathered c.apart (λ i j e. (c.tells i j e).entries))

    pub below : (k : ℕ) (a : A) → Contains r.answers (k, a) → k < (final count steps).next
    below k a h = let q = its k a h in (retired_final count steps).low q.0 k (price a) q.1

    pub low : (final count steps).next ≤ count
    low = (laws.stands_all count steps (opening count) [] (begins count)).low

    pub all_below : All (λ x. x.0 < count) r.answers
    all_below = λ k d lt.
        let x : ℕ × A = slice_index_or r.answers k d in
        let there : Contains r.answers x = (k, lt, get_or_default r.answers k x d lt) in
        let b : x.0 < (final count steps).next = below x.0 x.1 there in
        let l : (final count steps).next ≤ count = low in
        omega arith

    pub the_answers : (answers : List A) (costs : List ℕ)
        → map (λ a. Some a) answers ≡ placed (replicate count None) r.answers → (final count steps).costs ≡ costs
        → AreTheAnswers count fits price r.answers answers costs × ((final count steps).next ≡ count)
    the_answers answers costs row same =
        let long : length answers ≡ count = sym (length-map answers (λ (a : A). Some a))
        ∙ (ap length row ∙ (length-placed (replicate count None) r.answers ∙ length-replicate count None)) in
        let here : (i : ℕ) (a : A) → slice_get answers i ≡ Some a → Contains r.answers (i, a) = λ i a e.
        elim (placed_has (replicate count None) r.answers i a (ap (λ t. slice_get t i) (sym row)
        ∙ mapped answers i a e)) [
          | inl h ↦ h
          | inr h ↦ absurd (none_placed count i a h)
        ] in
        let up : (final count steps).next ≤ count = low in (
          record {
            long = long;
            priced = ap length (sym same) ∙ length-costs_final count steps;
            each = λ i a e.
                let h : Contains r.answers (i, a) = here i a e in
                let q = its i a h in (
                  h,
                  fits_has fits r.answers i a c.fitting.fit h,
                  ap (λ t. slice_index t i) (sym same) ∙ get_or_from_slice_get (final count steps).costs i (price a) 0
                      ((retired_final count steps).cost_stands q.0 i (price a) q.1),
                );
          },
          all_taken count (final count steps).next answers long up (λ i a e. below i a (here i a e)),
        )

    -- the first hole is the lowest job that has no answer
    pub missing : (i : ℕ) → IsFirstHole (placed (replicate count None) r.answers) i → IsFirstMissing count r.answers i
    missing i h =
        let none : Option A = None in
        let long : length (placed (replicate count none) r.answers) ≡ count =
        length-placed (replicate count None) r.answers ∙ length-replicate count None in
        let lt : i < length (placed (replicate count none) r.answers) =
        slice_get_within (placed (replicate count none) r.answers) i none h.0 in (
          omega arith,
          (λ a there.
              let capacity : i < length (replicate count none) = let e : length (replicate count none) ≡ count =
              length-replicate count None in omega arith in
              let q = placed_some (replicate count None) r.answers i a capacity there in
              let both : Some none ≡ Some (Some q.0) = sym h.0 ∙ q.1 in absurd (cc)),
          (λ j below.
              let q = h.1 j below in
              elim (placed_has (replicate count None) r.answers j q.0 q.1) [
                | inl p ↦ (q.0, p)
                | inr p ↦ absurd (none_placed count j q.0 p)
              ]),
        )

    -- a job that went to a worker whose journal was gathered, and who holds none, has an answer
    came_back : (k i : ℕ) (j : Journal) → get_elem? r.gathered i ≡ some j → is_holding (state_of j.entries) ≡ false
        → (final count steps).state j.worker ≡ Holding k
        ⊎ ((cost : ℕ) × Contains (handed (entries_of j.worker (played count (opening count) steps))) (k, cost))
        → (a : A) × Contains r.answers (k, a)
    came_back k i j at idle (inl holding) =
        let entries : entries_of j.worker (played count (opening count) steps) ≡ j.entries = (c.tells i j at).entries in
        let busy : is_holding (state_of j.entries) ≡ true =
        ap (λ t. is_holding (state_of t)) (sym entries)
        ∙ (ap is_holding (sym ((retired_final count steps).state j.worker)) ∙ ap is_holding holding) in
        absurd (cc)
    came_back k i j at idle (inr back) =
        let P : List (ℕ × ℕ) → Type 0 = λ q. Contains q (k, back.0) in
        let handed_back : Contains (handed j.entries) (k, back.0) =
        subst P (ap handed (c.tells i j at).entries) back.1 in
        priced_has price r.answers k back.0
        (subst P (sym c.fitting.each) (has_all r.gathered i j (k, back.0) at handed_back))

    -- the same of a worker, by number
    came_back_from : (k w : ℕ) → IsWhole r.made r.gathered → w < r.made
        → is_out w k (takes (played count (opening count) steps)) ≡ true → (a : A) × Contains r.answers (k, a)
    came_back_from k w all made taken =
        let its = place_of r.gathered w (all.all w made) in
        let idle = at_place (λ j. is_holding (state_of j.entries) ≡ false) r.gathered its.0 its.1 all.idle its.2 in
        came_back k its.0 its.1 its.2 idle ((retired_final count steps).fate its.1.worker k (rw its.3 taken))

    -- where all was gathered and all is known to be taken, every job has an answer
    pub none_missing : IsWhole r.made r.gathered → (i : ℕ) → i < count → (a : A) × Contains r.answers (i, a)
    none_missing all i lt =
        let told = place_of_any (λ j. saw_none j.entries) r.gathered all.told in
        let sees : count ≤ seen count told.1 = told_none count told.1 told.3 in
        let reached : seen count told.1 ≤ (final count steps).next = (c.tells told.0 told.1 told.2).seen_low in
        let taker = took_from i (takes (played count (opening count) steps)) 0 (final count steps).next c.one_list.once
        (omega arith) (omega arith) in
        came_back_from i taker.0 all (taker_made count r.made taker.0 i steps (opening count) c.one_list.below taker.1)
        taker.1

    -- the same, of a row of `n` places and answers that are the root's
    module _ (n : ℕ) (own : List (ℕ × A)) (same : n ≡ count) (its_own : own ≡ r.answers) where
      row_is : placed (replicate n None) own ≡ placed (replicate count None) r.answers
      row_is = ap (λ m. placed (replicate m None) own) same ∙ ap (λ t. placed (replicate count None) t) its_own

      pub own_below : All (λ x. x.0 < n) own
      own_below = rw (its_own, same) all_below

      pub own_once : NoneTwice (jobs_of own)
      own_once = rw its_own each_once

      pub ends_well : (answers : List A) (costs : List ℕ) → map (λ a. Some a) answers ≡ placed (replicate n None) own
          → (final count steps).costs ≡ costs
          → AreTheAnswers count fits price r.answers answers costs × ((final count steps).next ≡ count)
      ends_well answers costs row e = the_answers answers costs (row ∙ row_is) e

      -- the fault that an empty place makes
      pub fault_is : (e : CollectFault) → HoleOf (placed (replicate n None) own) e → MissingOf count r.answers e
      fault_is (Missing i) h = missing i (rw row_is at h)
      fault_is NoMemory h = tt

      pub whole_is : IsWhole r.made r.gathered → (e : CollectFault) → HoleOf (placed (replicate n None) own) e
          → IsNoMemory e
      whole_is all (Missing i) h =
          let m : IsFirstMissing count r.answers i = fault_is (Missing i) h in
          let a = none_missing all i m.0 in
          m.1 a.0 a.1
      whole_is all NoMemory h = tt

-- the number of jobs, from a board's inside to its value
pub count_is : {J : Type 0} (number : J → ℕ) (b d : BoardView J) (count : ℕ) → count ≡ number b.jobs → b ≡ d
    → count ≡ number d.jobs
count_is {J} number b d count n e = n ∙ ap (λ (v : BoardView J). number v.jobs) e

-- the same, from a board's and a root's insides to their values
module _ {J A : Type 0} (number : J → ℕ) (fits : J → ℕ → A → Type 0) (price : J → A → ℕ) where
  -- the steps behind a board that was closed
  pub record Found (d : BoardView J) (q : RootView J A) (s : TableState) : Type 0 where
    pub steps : List Step
    pub words : s.words ≡ (final (number d.jobs) steps).next ∷ (final (number d.jobs) steps).costs
    pub closed : IsClosed (number d.jobs) (fits d.jobs) (price d.jobs) q steps

  pub finds_at : (r q : RootView J A) (b d : BoardView J) (id : ℕ) (me : Sat) (count : ℕ) → r ≡ q → b ≡ d → q.board ≡ d
      → count ≡ number b.jobs → IsRoot (number r.board.jobs) (fits r.board.jobs) (price r.board.jobs) me r
      → (s : TableState) → IsKept count s → get_elem? s.views id ≡ some me.0 → Found d q s
  finds_at r q b d id me count e f own n h s k at =
      let jobs : r.board.jobs ≡ d.jobs = ap (λ (v : RootView J A). v.board.jobs) e
      ∙ ap (λ (v : BoardView J). v.jobs) own in
      let same : count ≡ number d.jobs = count_is number b d count n f in
      let kept : IsKept (number d.jobs) s = rw same at k in
      rw (← e) record {
        steps = kept.steps;
        words = kept.words;
        closed = closes (number d.jobs) (fits d.jobs) (price d.jobs) id me r
            (subst (λ (j : J). IsRoot (number j) (fits j) (price j) me r) jobs h) s kept at;
      }

  -- the costs that were read stand behind the next job
  pub costs_are : (d : BoardView J) (q : RootView J A) (s : TableState) (f : Found d q s) (costs : List ℕ) (next : ℕ)
      → s.words ≡ next ∷ costs → (final (number d.jobs) f.steps).costs ≡ costs
  costs_are d q s f costs next w = grind arith
