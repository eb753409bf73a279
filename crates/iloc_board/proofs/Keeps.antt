-- The five atomic steps keep the rule.
use Rattle.iloc_board.proofs.Common.{◌≡◌, ℕ, zero, suc, ◌+◌, ◌<◌, ◌≤◌, Bool, true, false, cond, ◌≢◌, ◌⊎◌, List, [], ◌∷◌, ◌++◌, length, set, replicate, ◌==◌, slice_index, slice_set, sym, refl, ap, ◌∙◌, subst, inl, inr, arith, length-append, length-set, cases_eq, Core, after, costs_at, look_finds, hand_reply, is_holding, look_reply, missed, next_after, opening, played, reply_to, try_reply, worker_of, entries_of, noted, seen, state_of, final, Fits, FitsPass, FitsRoot, IsKept, Sat, TableState, Tells, gathers, hands, looks, made_pass, makes, pass_seat, root_seat, spent_seat, tells_all, tries, State, Holding, Looked, Journal, Reply, Handed, NotNow, Took, Step, Hand, Look, Try}
use mathlib.Core.Option.{none, some, some-injective, some-ne-none}
use lib.ListN.{get_elem?}
use prog.Atomic.{either}
use Rattle.atomic_table.specs.Table as table
use Rattle.atomic_table.specs.Table.{keeps, step, Allows, Splits, Joins}
use Rattle.atomic_table.proofs.Lists.{at_set, set_here, set_else, set_again, at_longer}
use Rattle.iloc_board.specs.declared.board.seat_view.Role.TheVariants.{Root, Pass, Spent}
use Rattle.iloc_board.specs.declared.board.seat_view.SeatView.{SeatView}
use Rattle.iloc_board.proofs.Runs.{played-snoc, final-snoc}
use Rattle.iloc_board.proofs.Parts.{state_final, made-snoc, made_more, answered-snoc, none_yet, tells_here, tells_else, seen_in_low}

module _ {A : Type 0} where
  pub in_range : (l : List A) (i : ℕ) (a : A) → get_elem? l i ≡ some a → i < length l
  in_range [] i a e = absurd (some-ne-none a (sym e))
  in_range (x ∷ xs) zero a e = omega arith
  in_range (x ∷ xs) (suc i) a e = let h : i < length xs = in_range xs i a e in omega arith

  pub at_snoc_place : (l : List A) (a b : A) (j : ℕ) → get_elem? (l ++ a ∷ []) j ≡ some b → (get_elem? l j ≡ some b)
      ⊎ ((j ≡ length l) × (a ≡ b))
  at_snoc_place [] a b zero e = inr (refl, some-injective a b e)
  at_snoc_place [] a b (suc j) e = absurd (some-ne-none b (sym e))
  at_snoc_place (x ∷ xs) a b zero e = inl e
  at_snoc_place (x ∷ xs) a b (suc j) e = grind (arith, at_snoc_place xs a b j e)

-- the rule at the beginning
pub begins : (count : ℕ) (words : List ℕ) → words ≡ 0 ∷ replicate count 0
    → IsKept count (table.opening words [] (root_seat count 0 []))
begins count words e = grind (arith, get_elem?, some, some-injective, some-ne-none)

-- a pass's own step adds its entry
pub adds_one : (count : ℕ) (s : TableState) (k : IsKept count s) (id : ℕ) (v : SeatView) → get_elem? s.views id ≡ some v
    → v.role ≡ Pass → (x : Step) → v.journal.worker ≡ worker_of x → (r : Reply)
    → reply_to count (final count k.steps) x ≡ r → r ≢ NotNow → (ws : List ℕ)
    → ws ≡ (after count (final count k.steps) x).next ∷ (after count (final count k.steps) x).costs
    → IsKept count record {
      words = ws;
      homes = s.homes;
      views = set s.views id (pass_seat v.count (noted v.journal x r));
    }
adds_one count s k id v at role x w r e answered ws words =
    let c : Core = final count k.steps in
    let new : SeatView = pass_seat v.count (noted v.journal x r) in
    let mine : FitsPass count k.steps id v = (k.fits id v at).0 role in
    let steps : List Step = k.steps ++ x ∷ [] in
    let there : id < length s.views = in_range s.views id v at in
    let final' : final count steps ≡ after count c x = final-snoc count k.steps x in
    let other : (i : ℕ) → i ≢ id → (j : Journal) → i ≡ suc j.worker → j.worker ≢ worker_of x =
    λ i ne j place same. let p : id ≡ suc v.journal.worker = mine.place in absurd (ne (omega arith)) in
    record {
      made = k.made;
      seats = length-set s.views id new ∙ k.seats;
      steps = steps;
      words = words ∙ ap (λ (q : Core). q.next ∷ q.costs) (sym final');
      below = made-snoc k.made k.steps x k.below (let p : id ≡ suc v.journal.worker = mine.place in
          let n : length s.views ≡ suc k.made = k.seats in omega arith);
      answered = rw (played-snoc count (opening count) k.steps x)
          (answered-snoc (played count (opening count) k.steps) x (reply_to count c x) k.answered
          (λ n. answered (sym e ∙ n)));
      fits = λ i u is.
          elim (at_set s.views id i new u is) [
            | inl p ↦
                rw p.0 (rw (← p.1) (
                  (λ role. record {
                    place = mine.place;
                    counts = mine.counts;
                    tells = tells_here count k.steps v.journal x r e w mine.tells;
                  }),
                  (λ role. absurd (cc)),
                ))
            | inr p ↦
                let old : Fits count k.made k.steps s.views i u = k.fits i u p.1 in (
                  (λ pass. let f = old.0 pass in
                      record {
                        place = f.place;
                        counts = f.counts;
                        tells = tells_else count k.steps u.journal x (other i p.0 u.journal f.place) f.tells;
                      }),
                  (λ root. let f = old.1 root in record {
                    place = f.place;
                    counts = f.counts;
                    made_is = f.made_is;
                    gathered = λ g j is.
                        let h = f.gathered g j is in
                        let ne : suc j.worker ≢ id = λ q.
                        let both : spent_seat ≡ v = some-injective _ _ (sym (rw q at h.1) ∙ at) in
                        let roles : Spent ≡ v.role = ap (λ (z : SeatView). z.role) both in absurd (cc) in (
                          tells_else count k.steps j x (other (suc j.worker) ne j refl) h.0,
                          set_else s.views id (suc j.worker) new ne ∙ h.1,
                        );
                    apart = f.apart;
                  }),
                )
          ];
    }

-- the word is the next job
next_word : (ws costs : List ℕ) (next : ℕ) → ws ≡ next ∷ costs → slice_index ws 0 ≡ next
next_word ws costs next e = ap (λ t. slice_index t 0) e

stays_found : (next count : ℕ) → next_after next (look_finds count next) ≡ next
stays_found next count = grind arith

stays_missed : (next count : ℕ) → next_after next (missed count next) ≡ next
stays_missed next count = grind arith

found_answers : (count next : ℕ) → look_finds count next ≢ NotNow
found_answers count next = grind arith

missed_answers : (count next : ℕ) → missed count next ≢ NotNow
missed_answers count next = grind arith

free_looks : (count next : ℕ) (s : State) → is_holding s ≡ false → look_reply count next s ≡ look_finds count next
free_looks count next (Holding k) e = absurd (cc)
free_looks count next s e = refl

-- the state that the core has for a live pass
state_here : (count : ℕ) (s : TableState) (k : IsKept count s) (id : ℕ) (v : SeatView) → get_elem? s.views id ≡ some v
    → v.role ≡ Pass → (final count k.steps).state v.journal.worker ≡ state_of v.journal.entries
state_here count s k id v at role = state_final count k.steps v.journal.worker
    ∙ ap state_of ((k.fits id v at).0 role).tells.entries

-- a load of word 0
pub looks_kept : (count slots id : ℕ) (m : Sat) → m.0.role ≡ Pass → is_holding (state_of m.0.journal.entries) ≡ false
    → Allows (IsKept count) slots id m 0 (λ n. n) (looks (step slots 0 0 0 none) m)
looks_kept count slots id m role free s k len at small =
    let v : SeatView = m.0 in
    let x : Step = Look v.journal.worker in
    let c : Core = final count k.steps in
    let n : ℕ = slice_index s.words 0 in
    let mine : FitsPass count k.steps id v = (k.fits id v at).0 role in
    let word : n ≡ c.next = next_word s.words c.costs c.next k.words in
    let state : is_holding (c.state v.journal.worker) ≡ false = ap is_holding (state_here count s k id v at role)
    ∙ free in
    let finds : reply_to count c x ≡ look_finds count c.next = free_looks count c.next (c.state v.journal.worker) state in
    let r : Reply = look_finds v.count n in
    let same : reply_to count c x ≡ r = finds
    ∙ (ap (λ q. look_finds q c.next) (sym mine.counts) ∙ ap (λ q. look_finds v.count q) (sym word)) in
    let stays : next_after c.next (reply_to count c x) ≡ c.next = ap (λ q. next_after c.next q) finds
    ∙ stays_found c.next count in
    let ws : slice_set s.words 0 n ≡ (after count c x).next ∷ (after count c x).costs =
    ap (λ t. slice_set t 0 n) k.words ∙ (ap (λ q. q ∷ c.costs) word ∙ ap (λ q. q ∷ c.costs) (sym stays)) in
    let low : seen count v.journal ≤ c.next = mine.tells.seen_low in
    let low' : seen v.count v.journal ≤ n = rw mine.counts (omega arith) in (
      pass_seat v.count (noted v.journal x r),
      keeps,
      tt,
      adds_one count s k id v at role x refl r same (found_answers v.count n) (slice_set s.words 0 n) ws,
      (refl, low'),
    )

read_again : (ws costs : List ℕ) (next : ℕ) → ws ≡ next ∷ costs → slice_set ws 0 (slice_index ws 0) ≡ ws
read_again ws costs next e = rw e refl

-- a load of word 0 by the root
pub tells_kept : (count slots id : ℕ) (m : Sat) → m.0.role ≡ Root
    → Allows (IsKept count) slots id m 0 (λ n. n) (tells_all (step slots 0 0 0 none) m)
tells_kept count slots id m role s k len at small =
    let v : SeatView = m.0 in
    let mine : FitsRoot count k.made k.steps s.views id v = (k.fits id v at).1 role in
    let n : ℕ = slice_index s.words 0 in
    let words : s.words ≡ slice_set s.words 0 n = sym (read_again s.words (final count k.steps).costs (final count k.steps).next k.words) in
    let views : s.views ≡ slice_set s.views id v = sym (set_again s.views id v at) in (
      v,
      keeps,
      tt,
      rw (← words, ← views) k,
      (refl, s, rw mine.counts k, id, at),
    )

-- a compare and exchange of word 0
pub tries_kept : (count slots id : ℕ) (m : Sat) (k new : ℕ) → m.0.role ≡ Pass → state_of m.0.journal.entries ≡ Looked k
    → new ≡ suc k → Allows (IsKept count) slots id m 0 (λ n. either (n == k) new n) (tries (step slots 0 k new none) m)
tries_kept count slots id m j new role looked more s k len at small =
    let v : SeatView = m.0 in
    let x : Step = Try v.journal.worker in
    let c : Core = final count k.steps in
    let n : ℕ = slice_index s.words 0 in
    let mine : FitsPass count k.steps id v = (k.fits id v at).0 role in
    let word : n ≡ c.next = next_word s.words c.costs c.next k.words in
    let state : c.state v.journal.worker ≡ Looked j = state_here count s k id v at role ∙ looked in
    let tells : reply_to count c x ≡ cond (c.next == j) (Took j) (missed count c.next) =
    ap (λ q. try_reply count c.next q) state in
    let r : Reply = cond (n == j) (Took j) (missed v.count n) in
    let same : reply_to count c x ≡ r = tells
    ∙ (ap (λ q. cond (c.next == j) (Took j) (missed q c.next)) (sym mine.counts)
    ∙ ap (λ q. cond (q == j) (Took j) (missed v.count q)) (sym word)) in
    let moves : (b : Bool) → (n == j) ≡ b → (r ≢ NotNow) × (next_after c.next r ≡ either (n == j) new n) = elim [
      | true ↦ λ e. (
        let is : r ≡ Took j = ap (λ b. cond b (Took j) (missed v.count n)) e in
            (λ q. let z : Took j ≡ NotNow = sym is ∙ q in absurd (cc)),
        ap (λ q. next_after c.next q) (ap (λ b. cond b (Took j) (missed v.count n)) e)
            ∙ (sym more ∙ ap (λ b. either b new n) (sym e)),
      )
      | false ↦ λ e. (
        let is : r ≡ missed v.count n = ap (λ b. cond b (Took j) (missed v.count n)) e in
            (λ q. missed_answers v.count n (sym is ∙ q)),
        ap (λ q. next_after c.next q) (ap (λ b. cond b (Took j) (missed v.count n)) e)
            ∙ (ap (λ q. next_after q (missed v.count n)) (sym word)
            ∙ (stays_missed n v.count ∙ ap (λ b. either b new n) (sym e))),
      )
    ] in
    let moved = moves (n == j) refl in
    let next : next_after c.next (reply_to count c x) ≡ either (n == j) new n = ap (λ q. next_after c.next q) same
    ∙ moved.1 in
    let ws : slice_set s.words 0 (either (n == j) new n) ≡ (after count c x).next ∷ (after count c x).costs =
    ap (λ t. slice_set t 0 (either (n == j) new n)) k.words ∙ ap (λ q. q ∷ c.costs) (sym next) in
    let low : seen count v.journal ≤ c.next = mine.tells.seen_low in
    let low' : seen v.count v.journal ≤ n = rw mine.counts (omega arith) in (
      pass_seat v.count (noted v.journal x r),
      keeps,
      tt,
      adds_one count s k id v at role x refl r same moved.0
          (slice_set s.words 0 (either (n == j) new n)) ws,
      (refl, low'),
    )

-- a store of a cost
pub hands_kept : (count slots id : ℕ) (m : Sat) (k i cost : ℕ) → m.0.role ≡ Pass
    → state_of m.0.journal.entries ≡ Holding k → i ≡ suc k
    → Allows (IsKept count) slots id m i (λ _. cost) (λ _. hands (step slots i cost 0 none) m cost)
hands_kept count slots id m j i cost role holding place s k len at small =
    let v : SeatView = m.0 in
    let x : Step = Hand v.journal.worker cost in
    let c : Core = final count k.steps in
    let state : c.state v.journal.worker ≡ Holding j = state_here count s k id v at role ∙ holding in
    let same : reply_to count c x ≡ Handed = ap hand_reply state in
    let stays : next_after c.next (reply_to count c x) ≡ c.next = ap (λ q. next_after c.next q) same in
    let costs : (after count c x).costs ≡ slice_set c.costs j cost = ap (λ q. costs_at c.costs q x) state in
    let ws : slice_set s.words i cost ≡ (after count c x).next ∷ (after count c x).costs =
    ap (λ t. slice_set s.words t cost) place
    ∙ (ap (λ t. slice_set t (suc j) cost) k.words
    ∙ (ap (λ q. q ∷ slice_set c.costs j cost) (sym stays) ∙ ap (λ q. (after count c x).next ∷ q) (sym costs))) in (
      pass_seat v.count (noted v.journal x Handed),
      keeps,
      tt,
      adds_one count s k id v at role x refl Handed same
          (λ q. absurd (cc)) (slice_set s.words i cost) ws,
      refl,
    )

-- a root makes a pass
pub makes_kept : (count id : ℕ) (v : SeatView) → v.role ≡ Root → Splits (IsKept count) id v (makes v) (made_pass v)
makes_kept count id v role s k at =
    let left : SeatView = makes v in
    let right : SeatView = made_pass v in
    let mine : FitsRoot count k.made k.steps s.views id v = (k.fits id v at).1 role in
    let views : List SeatView = set s.views id left ++ right ∷ [] in
    let long : length (set s.views id left) ≡ suc k.made = length-set s.views id left ∙ k.seats in
    let fresh : Tells count k.steps right.journal = record {
      entries = ap (λ w. entries_of w (played count (opening count) k.steps)) mine.made_is
          ∙ none_yet count (opening count) k.steps k.made k.below;
      seen_low =
          rw mine.counts (seen_in_low count (final count k.steps).next v.gathered
          (λ i j e. (mine.gathered i j e).0.seen_low));
    } in
    record {
      made = suc k.made;
      seats = length-append (set s.views id left) (right ∷ [])
          ∙ (let e : length (set s.views id left) + 1 ≡ suc (suc k.made) = omega arith in e);
      steps = k.steps;
      words = k.words;
      below = made_more k.made k.steps k.below;
      answered = k.answered;
      fits = λ i u is.
          elim (at_snoc_place (set s.views id left) right u i is) [
            | inl p ↦ elim (at_set s.views id i left u p) [
              | inl q ↦
                  rw q.0 (rw (← q.1) (
                    (λ r. absurd (cc)),
                    (λ r. record {
                      place = mine.place;
                      counts = mine.counts;
                      made_is = ap suc mine.made_is;
                      gathered = λ a j e.
                          let h = mine.gathered a j e in
                          let zero_id : id ≡ 0 = mine.place in
                          let ne : suc j.worker ≢ id = λ z. absurd (omega arith) in (
                            h.0,
                            at_longer (set s.views id left) (right ∷ []) (suc j.worker) spent_seat
                                (set_else s.views id (suc j.worker) left ne ∙ h.1),
                          );
                      apart = mine.apart;
                    }),
                  ))
              | inr q ↦
                  let old : Fits count k.made k.steps s.views i u = k.fits i u q.1 in (
                    (λ pass. let f = old.0 pass in record { place = f.place; counts = f.counts; tells = f.tells }),
                    (λ root. let f = old.1 root in let a : i ≡ 0 = f.place in let b : id ≡ 0 = mine.place in
                        absurd (q.0 (omega arith))),
                  )
            ]
            | inr p ↦
                rw (← p.1) (
                  (λ pass. record {
                    place = p.0 ∙ (long ∙ ap suc (sym mine.made_is));
                    counts = mine.counts;
                    tells = fresh;
                  }),
                  (λ root. absurd (cc)),
                )
          ];
    }

-- a root gathers a pass
pub gathers_kept : (count id other : ℕ) (v w : SeatView) → v.role ≡ Root → w.role ≡ Pass
    → Joins (IsKept count) id v other w (gathers v w) spent_seat
gathers_kept count id other v w root pass s k at ne there =
    let both : SeatView = gathers v w in
    let mine : FitsRoot count k.made k.steps s.views id v = (k.fits id v at).1 root in
    let was : get_elem? s.views other ≡ some w = sym (set_else s.views id other both ne) ∙ there in
    let its : FitsPass count k.steps other w = (k.fits other w was).0 pass in
    let row : List SeatView = set s.views id both in
    let views : List SeatView = set row other spent_seat in
    let reach : other < length row = in_range row other w there in
    let id_zero : id ≡ 0 = mine.place in
    -- an old journal's seat stays spent
    let spent : (j : Journal) → get_elem? s.views (suc j.worker) ≡ some spent_seat → get_elem? views (suc j.worker)
    ≡ some spent_seat = λ j h.
    elim (cases_eq (suc j.worker) other) [
      | inl e ↦ rw e (set_here row other spent_seat reach)
      | inr e ↦ let n : suc j.worker ≢ id = λ z. absurd (omega arith) in set_else row other (suc j.worker) spent_seat e
          ∙ (set_else s.views id (suc j.worker) both n ∙ h)
    ] in
    -- no gathered journal is of this pass's worker
    let apart : (j : Journal) → get_elem? s.views (suc j.worker) ≡ some spent_seat → j.worker ≢ w.journal.worker =
    λ j h e.
    let place : other ≡ suc w.journal.worker = its.place in
    let same : suc j.worker ≡ other = omega arith in
    let one : spent_seat ≡ w = some-injective _ _ (sym (rw same at h) ∙ was) in
    let roles : Spent ≡ w.role = ap (λ (z : SeatView). z.role) one in
    absurd (cc) in
    record {
      made = k.made;
      seats = length-set row other spent_seat ∙ (length-set s.views id both ∙ k.seats);
      steps = k.steps;
      words = k.words;
      below = k.below;
      answered = k.answered;
      fits = λ i u is.
          elim (at_set row other i spent_seat u is) [
            | inl p ↦
                rw (← p.1) ((λ r. absurd (cc)), (λ r. absurd (cc)))
            | inr p ↦ elim (at_set s.views id i both u p.1) [
              | inl q ↦
                  rw q.0 (rw (← q.1) (
                    (λ r. absurd (cc)),
                    (λ r. record {
                      place = mine.place;
                      counts = mine.counts;
                      made_is = mine.made_is;
                      gathered = λ a j e.
                          elim (at_snoc_place v.gathered w.journal j a e) [
                            | inl old ↦ let h = mine.gathered a j old in (h.0, spent j h.1)
                            | inr new ↦
                                let here : get_elem? views (suc w.journal.worker) ≡ some spent_seat = subst
                                (λ (z : ℕ). get_elem? views z ≡ some spent_seat) its.place
                                (set_here row other spent_seat reach) in
                                rw (← new.1) (its.tells, here)
                          ];
                      apart = λ a b j l ja lb same.
                          elim (at_snoc_place v.gathered w.journal j a ja) [
                            | inl x ↦ elim (at_snoc_place v.gathered w.journal l b lb) [
                              | inl y ↦ mine.apart a b j l x y same
                              | inr y ↦ absurd
                                  (apart j (mine.gathered a j x).1 (same ∙ ap (λ (z : Journal). z.worker) (sym y.1)))
                            ]
                            | inr x ↦ elim (at_snoc_place v.gathered w.journal l b lb) [
                              | inl y ↦ absurd
                                  (apart l (mine.gathered b l y).1
                                  (sym same ∙ ap (λ (z : Journal). z.worker) (sym x.1)))
                              | inr y ↦ x.0 ∙ sym y.0
                            ]
                          ];
                    }),
                  ))
              | inr q ↦
                  let old : Fits count k.made k.steps s.views i u = k.fits i u q.1 in (
                    (λ r. let f = old.0 r in record { place = f.place; counts = f.counts; tells = f.tells }),
                    (λ r. let f = old.1 r in let a : i ≡ 0 = f.place in absurd (q.0 (omega arith))),
                  )
            ]
          ];
    }
