-- How a worker's run falls.
use Rattle.iloc_board.proofs.Common.{◌≡◌, ℕ, suc, ◌+◌, ◌<◌, ◌≤◌, max, true, List, [], ◌∷◌, ◌++◌, length, refl, ap, append_assoc, append-nil, arith, length-append, or_right, entry, state_after, is_none_left, noted, saw_none, seen, seen_from, shown, state_from, state_of, Ended, Goes, Pays, left, left_in, slack, slack_in, is_looking, State, Free, Holding, Looked, Entry, Journal, Reply, Handed, NoneLeft, Stale, Took, Step}
use Rattle.iloc_board.specs.Working.{one_if_stale, stales, Extends, Runs, IsDone}
use Rattle.iloc_board.proofs.Parts.{state_from-snoc, seen_from-snoc}

stales-snoc : (es : List Entry) (x : Step) (r : Reply) → stales (es ++ entry x r ∷ []) ≡ stales es + one_if_stale r
stales-snoc [] x r = omega arith
stales-snoc (e ∷ es) x r = let h : stales (es ++ entry x r ∷ []) ≡ stales es + one_if_stale r = stales-snoc es x r in
    omega arith

saw_none-snoc : (es : List Entry) (x : Step) → saw_none (es ++ entry x NoneLeft ∷ []) ≡ true
saw_none-snoc [] x = refl
saw_none-snoc (e ∷ es) x = or_right (is_none_left e.reply) _ (saw_none-snoc es x)

-- what may be left and what may come too late, by the state, and the same after one entry more
stands : (count : ℕ) (t : Journal) (s : State) → state_of t.entries ≡ s
    → (left count t ≡ left_in count (seen count t) s) × (slack count t ≡ slack_in count (seen count t) s)
stands count t s e = (ap (left_in count (seen count t)) e, ap (slack_in count (seen count t)) e)

stands_noted : (count : ℕ) (t : Journal) (x : Step) (r : Reply) (s : State) → state_of t.entries ≡ s
    → (left count (noted t x r) ≡ left_in count (max (seen count t) (shown count r)) (state_after s r))
    × (slack count (noted t x r) ≡ slack_in count (max (seen count t) (shown count r)) (state_after s r))
stands_noted count t x r s e = grind (arith, seen_from-snoc, state_from-snoc)

adds_more : (j t : Journal) (added : List Entry) (x : Step) (r : Reply) → Extends j t added
    → Extends j (noted t x r) (added ++ entry x r ∷ [])
adds_more j t added x r h = grind (arith, append_assoc)

pub goes_none : (count : ℕ) (j : Journal) → Goes count j j
goes_none count j = grind (arith, append-nil)

pays_more : (count : ℕ) (j t : Journal) (x : Step) (r : Reply) (entries late : ℕ) → Goes count j t
    → 1 + entries ≤ left count t → one_if_stale r + late ≤ slack count t → Pays count j (noted t x r) entries late
pays_more count j t x r entries late h fall few =
    let long : length (h.added ++ entry x r ∷ []) ≡ length h.added + 1 = length-append h.added (entry x r ∷ []) in
    let more : stales (h.added ++ entry x r ∷ []) ≡ stales h.added + one_if_stale r = stales-snoc h.added x r in record {
      added = h.added ++ entry x r ∷ [];
      adds = adds_more j t h.added x r h.adds;
      few = omega arith;
      stale = omega arith;
    }

adds_join : (j t u : Journal) (xs ys : List Entry) → Extends j t xs → Extends t u ys → Extends j u (xs ++ ys)
adds_join j t u xs ys h i = grind (arith, append_assoc)

stales-append : (xs ys : List Entry) → stales (xs ++ ys) ≡ stales xs + stales ys
stales-append [] ys = omega arith
stales-append (e ∷ xs) ys = let h : stales (xs ++ ys) ≡ stales xs + stales ys = stales-append xs ys in omega arith

-- one part of a run after another
pub pays_on : (count : ℕ) (j t u : Journal) (entries late : ℕ) → Goes count j t → Pays count t u entries late
    → Pays count j u entries late
pays_on count j t u entries late h i =
    let long : length (h.added ++ i.added) ≡ length h.added + length i.added = length-append h.added i.added in
    let more : stales (h.added ++ i.added) ≡ stales h.added + stales i.added = stales-append h.added i.added in record {
      added = h.added ++ i.added;
      adds = adds_join j t u h.added i.added h.adds i.adds;
      few = omega arith;
      stale = omega arith;
    }

pub ends_here : (count : ℕ) (j t : Journal) → Goes count j t → Ended count j t
ends_here count j t h = record { added = h.added; adds = h.adds; few = omega arith; stale = omega arith }

-- from a free start
pub runs : (count : ℕ) (j t : Journal) → state_of j.entries ≡ Free → Ended count j t → Runs count j t
runs count j t free h = let a = stands count j Free free in
    record { added = h.added; adds = h.adds; few = omega arith; late = omega arith }

pub took_goes : (count : ℕ) (j t : Journal) (x : Step) (k : ℕ) → Goes count j t → state_of t.entries ≡ Looked k
    → k < count → Goes count j (noted t x (Took k))
took_goes count j t x k h looked lt = grind (arith, pays_more, stands, stands_noted)

pub stale_goes : (count : ℕ) (j t : Journal) (x : Step) (k n : ℕ) → Goes count j t → state_of t.entries ≡ Looked k
    → k < n → n < count → Goes count j (noted t x (Stale n))
stale_goes count j t x k n h looked lt capacity = grind (arith, pays_more, stands, stands_noted)

-- the measure of the loop of tries
pub stale_falls : (count : ℕ) (t : Journal) (x : Step) (k n : ℕ) → state_of t.entries ≡ Looked k → k < n → n < count
    → left count (noted t x (Stale n)) < left count t
stale_falls count t x k n looked lt capacity = grind (arith, stands, stands_noted)

pub none_ends : (count : ℕ) (j t : Journal) (x : Step) → Goes count j t → state_of t.entries ≡ Free
    → Ended count j (noted t x NoneLeft)
none_ends count j t x h free = let a = stands count t Free free in
    pays_more count j t x NoneLeft 0 0 h (omega arith) (omega arith)

pub late_ends : (count : ℕ) (j t : Journal) (x : Step) (k : ℕ) → Goes count j t → state_of t.entries ≡ Looked k
    → k < count → Ended count j (noted t x NoneLeft)
late_ends count j t x k h looked lt = let a = stands count t (Looked k) looked in
    pays_more count j t x NoneLeft 0 0 h (omega arith) (omega arith)

pub is_done : (t : Journal) (x : Step) → IsDone (noted t x NoneLeft)
is_done t x = grind (arith, saw_none-snoc, state_from-snoc)

-- a job held was taken, which shows that the next is past it
holds_step : (k start count : ℕ) (s : State) (r : Reply) → ((j : ℕ) → s ≡ Holding j → suc j ≤ start)
    → state_after s r ≡ Holding k → suc k ≤ max start (shown count r)
holds_step k start count s r h e = grind arith

holds_seen : (k start count : ℕ) (s : State) (es : List Entry) → ((j : ℕ) → s ≡ Holding j → suc j ≤ start)
    → state_from s es ≡ Holding k → suc k ≤ seen_from count start es
holds_seen k start count s [] h e = h k e
holds_seen k start count s (x ∷ es) h e = holds_seen k (max start (shown count x.reply)) count (state_after s x.reply)
    es (λ j f. holds_step j start count s x.reply h f) e

pub held_seen : (k count : ℕ) (j : Journal) → state_of j.entries ≡ Holding k → suc k ≤ seen count j
held_seen k count j e = holds_seen k j.start count Free j.entries (λ i f. absurd (cc)) e

pub hand_goes : (count : ℕ) (j t : Journal) (x : Step) (k : ℕ) → Goes count j t → state_of t.entries ≡ Holding k
    → k < count → Goes count j (noted t x Handed)
hand_goes count j t x k h holding lt = grind (arith, held_seen, pays_more, stands, stands_noted)

pub looking_at : (s : State) → is_looking s ≡ true → (k : ℕ) × (s ≡ Looked k)
looking_at (Looked k) e = (k, refl)
looking_at s e = absurd (cc)

pub hand_falls : (count : ℕ) (j t : Journal) (x : Step) (k : ℕ) → Goes count j t → state_of t.entries ≡ Holding k
    → k < count → left count (noted t x Handed) < left count j
hand_falls count j t x k h holding lt = grind (arith, held_seen, stands, stands_noted)
