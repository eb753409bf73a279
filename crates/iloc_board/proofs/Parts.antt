-- Each worker's part of a list of steps.
use Rattle.iloc_board.proofs.Common.{◌≡◌, ℕ, suc, ◌<◌, ◌≤◌, max, true, cond, ◌≢◌, List, [], ◌∷◌, ◌++◌, refl, ap, ◌∙◌, inl, inr, append_assoc, append-nil, arith, eq-eqb, ne_eqb, or_cases, AllAnswered, AllMade, Core, after, ends, entry, opening, played, reply_to, state_after, worker_of, accepted, entries_of, handed_from, is_none_left, noted, saw_none, seen, seen_from, seen_in, shown, state_from, state_of, final, Tells, State, Free, Looked, Entry, Journal, Reply, NoneLeft, NotNow, Step}
use mathlib.Core.Option.{some}
use lib.ListN.{get_elem?}
use Rattle.iloc_board.proofs.Effects.{finds, misses, none, wins, returns, waits, effect}
use Rattle.iloc_board.proofs.Runs.{played-snoc, final-snoc}

pub entries_of-append : (w : ℕ) (xs ys : List Entry) → entries_of w (xs ++ ys) ≡ entries_of w xs ++ entries_of w ys
entries_of-append w [] ys = refl
entries_of-append w (e ∷ xs) ys = grind (arith, entries_of-append w xs ys)

-- one entry more is the worker's own, or another's
pub entries_here : (w : ℕ) (es : List Entry) (x : Step) (r : Reply) → w ≡ worker_of x
    → entries_of w (es ++ entry x r ∷ []) ≡ entries_of w es ++ entry x r ∷ []
entries_here w es x r e = entries_of-append w es (entry x r ∷ [])
    ∙ ap (λ b. entries_of w es ++ cond b (entry x r ∷ []) []) (eq-eqb w (worker_of x) e)

pub entries_else : (w : ℕ) (es : List Entry) (x : Step) (r : Reply) → w ≢ worker_of x
    → entries_of w (es ++ entry x r ∷ []) ≡ entries_of w es
entries_else w es x r ne = grind (arith, append-nil, entries_of-append, ne_eqb)

-- the core's state of a worker follows from the worker's entries
pub state_is : (count : ℕ) (c : Core) (xs : List Step) (w : ℕ)
    → (ends count c xs).state w ≡ state_from (c.state w) (entries_of w (played count c xs))
state_is count c [] w = refl
state_is count c (x ∷ xs) w = grind (arith, state_is count (after count c x) xs w)

pub state_final : (count : ℕ) (steps : List Step) (w : ℕ)
    → (final count steps).state w ≡ state_of (entries_of w (played count (opening count) steps))
state_final count steps w = state_is count (opening count) steps w

pub state_from-snoc : (s : State) (es : List Entry) (x : Step) (r : Reply) → state_from s (es ++ entry x r ∷ [])
    ≡ state_after (state_from s es) r
state_from-snoc s [] x r = refl
state_from-snoc s (e ∷ es) x r = state_from-snoc (state_after s e.reply) es x r

pub seen_from-snoc : (count start : ℕ) (es : List Entry) (x : Step) (r : Reply)
    → seen_from count start (es ++ entry x r ∷ []) ≡ max (seen_from count start es) (shown count r)
seen_from-snoc count start [] x r = refl
seen_from-snoc count start (e ∷ es) x r = seen_from-snoc count (max start (shown count e.reply)) es x r

pub made-snoc : (made : ℕ) (xs : List Step) (x : Step) → AllMade made xs → worker_of x < made
    → AllMade made (xs ++ x ∷ [])
made-snoc made [] x h lt = (lt, tt)
made-snoc made (y ∷ xs) x h lt = (h.0, made-snoc made xs x h.1 lt)

pub made_more : (made : ℕ) (xs : List Step) → AllMade made xs → AllMade (suc made) xs
made_more made [] h = tt
made_more made (y ∷ xs) h = (let lt : worker_of y < made = h.0 in omega arith, made_more made xs h.1)

pub answered-snoc : (es : List Entry) (x : Step) (r : Reply) → AllAnswered es → r ≢ NotNow
    → AllAnswered (es ++ entry x r ∷ [])
answered-snoc [] x r h ne = (ne, tt)
answered-snoc (e ∷ es) x r h ne = (h.0, answered-snoc es x r h.1 ne)

-- a worker that was not made has no entries
pub none_yet : (count : ℕ) (c : Core) (xs : List Step) (made : ℕ) → AllMade made xs
    → entries_of made (played count c xs) ≡ []
none_yet count c [] made h = refl
none_yet count c (x ∷ xs) made h = grind (arith, ne_eqb, none_yet count (after count c x) xs made h.1)

-- the next job never falls, and is at least what a reply shows
pub next_rises : (count : ℕ) (c : Core) (x : Step) → c.next ≤ (after count c x).next
next_rises count c x = grind (arith, effect, finds, misses, none, returns, waits, wins)

pub shown_low : (count : ℕ) (c : Core) (x : Step) → shown count (reply_to count c x) ≤ (after count c x).next
shown_low count c x = grind (arith, effect, finds, misses, none, returns, waits, wins)

-- a journal after its own step, and after another's
pub tells_here : (count : ℕ) (steps : List Step) (j : Journal) (x : Step) (r : Reply)
    → reply_to count (final count steps) x ≡ r → j.worker ≡ worker_of x → Tells count steps j
    → Tells count (steps ++ x ∷ []) (noted j x r)
tells_here count steps j x r e w h = grind (arith, entries_here, final-snoc, next_rises, played-snoc, seen_from-snoc, shown_low)

pub tells_else : (count : ℕ) (steps : List Step) (j : Journal) (x : Step) → j.worker ≢ worker_of x → Tells count steps j
    → Tells count (steps ++ x ∷ []) j
tells_else count steps j x ne h = grind (arith, entries_else, final-snoc, next_rises, played-snoc)

pub seen_in_low : (count n : ℕ) (js : List Journal)
    → ((i : ℕ) (j : Journal) → get_elem? js i ≡ some j → seen count j ≤ n) → seen_in count js ≤ n
seen_in_low count n [] h = omega arith
seen_in_low count n (j ∷ js) h =
    let here : seen count j ≤ n = h 0 j refl in
    let rest : seen_in count js ≤ n = seen_in_low count n js (λ i k e. h (suc i) k e) in
    omega arith

pub handed_from-snoc : (s : State) (es : List Entry) (x : Step) (r : Reply) → handed_from s (es ++ entry x r ∷ [])
    ≡ handed_from s es ++ accepted (state_from s es) x r
handed_from-snoc s [] x r = append-nil (accepted s x r)
handed_from-snoc s (e ∷ es) x r = grind (arith, append_assoc, handed_from-snoc (state_after s e.reply) es x r)

pub seen_more : (count start : ℕ) (es : List Entry) → start ≤ seen_from count start es
seen_more count start [] = omega arith
seen_more count start (e ∷ es) = let h : max start (shown count e.reply) ≤ seen_from count
    (max start (shown count e.reply)) es = seen_more count (max start (shown count e.reply)) es in omega arith

shows_count : (count : ℕ) (r : Reply) → is_none_left r ≡ true → shown count r ≡ count
shows_count count NoneLeft e = refl
shows_count count r e = absurd (cc)

-- who was told that none is left has seen that all are taken
none_seen : (count start : ℕ) (es : List Entry) → saw_none es ≡ true → count ≤ seen_from count start es
none_seen count start [] h = absurd (cc)
none_seen count start (e ∷ es) h =
    elim (or_cases (is_none_left e.reply) (saw_none es) h) [
      | inl p ↦ let s : shown count e.reply ≡ count = shows_count count e.reply p in
          let m : max start (shown count e.reply) ≤ seen_from count (max start (shown count e.reply)) es =
          seen_more count (max start (shown count e.reply)) es in omega arith
      | inr p ↦ none_seen count (max start (shown count e.reply)) es p
    ]

pub told_none : (count : ℕ) (j : Journal) → saw_none j.entries ≡ true → count ≤ seen count j
told_none count j h = none_seen count j.start j.entries h

looks_step : (k start count : ℕ) (s : State) (r : Reply) → ((j : ℕ) → s ≡ Looked j → j ≤ start)
    → state_after s r ≡ Looked k → k ≤ max start (shown count r)
looks_step k start count s r h e = grind arith

looks_seen : (k start count : ℕ) (s : State) (es : List Entry) → ((j : ℕ) → s ≡ Looked j → j ≤ start)
    → state_from s es ≡ Looked k → k ≤ seen_from count start es
looks_seen k start count s [] h e = h k e
looks_seen k start count s (x ∷ es) h e = looks_seen k (max start (shown count x.reply)) count (state_after s x.reply)
    es (λ j f. looks_step j start count s x.reply h f) e

-- the job that was looked at is no more than what was seen
pub looked_seen : (k count : ℕ) (j : Journal) → state_of j.entries ≡ Looked k → k ≤ seen count j
looked_seen k count j e = looks_seen k j.start count Free j.entries (λ i f. absurd (cc)) e
