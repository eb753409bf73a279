-- The history of any steps is legal at the board of one thread, which ends where the core does.
use Rattle.iloc_board.proofs.Common.{◌≡◌, ℕ, suc, ◌-◌, ◌<◌, ◌≤◌, Bool, true, false, not, ◌&&◌, ◌||◌, List, [], ◌∷◌, ◌++◌, map, drop, ◌==◌, filter, sym, refl, ap, ◌∙◌, subst, append_assoc, append-nil, map-id, arith, eq-eqb, ne_eqb, eqb-true, and_parts, map-append, filter-append, range_with_len, Core, IsWithin, after, ends, is_holding, next_after, opening, played, reply_to, state_after, worker_of, IsExact, IsExactReply, StandsAt, accepted, calls_of, given, hand_backs, history, holds_job, is_held, taken_by, takes, Call, Legal, SequentialBoard, board_after, has_out, is_out, is_pair, moved, opened, without, State, Holding, Looked, Reply, Handed, Took, Step}
use Rattle.std.proofs.lemmas.Map.Views.{any-filter_same}
use Rattle.iloc_board.specs.Sequential as sequential
use Rattle.iloc_board.specs.Play as play
use Rattle.iloc_board.proofs.Effects.{finds, misses, none, wins, returns, waits, effect, state_here}
use Rattle.iloc_board.proofs.Taking.{Stands, begins, stands, state_by, looked_within}

pub free_holds : (s : State) (k : ℕ) → is_holding s ≡ false → holds_job s k ≡ false
free_holds (Holding j) k e = absurd (cc)
free_holds s k e = refl

-- a step after which the worker holds a job just if it did before
same_held : (count : ℕ) (c : Core) (x : Step) (r : Reply) → reply_to count c x ≡ r
    → ((k : ℕ) → holds_job (state_after (c.state (worker_of x)) r) k ≡ holds_job (c.state (worker_of x)) k)
    → (p : ℕ × ℕ) → is_held (after count c x) p ≡ is_held c p
same_held count c x r e same p = grind (arith, state_by)

filter_same : (f g : ℕ × ℕ → Bool) → ((p : ℕ × ℕ) → f p ≡ g p) → (ps : List (ℕ × ℕ)) → filter f ps ≡ filter g ps
filter_same f g h ps = ap (λ t. filter t ps) (λ i p. h p i)

or_true : (b : Bool) → (b || true) ≡ true
or_true true = refl
or_true false = refl

-- the same of the pairs that are there
filter_on : (f g : ℕ × ℕ → Bool) (ps : List (ℕ × ℕ)) → ((w k : ℕ) → is_out w k ps ≡ true → f (w, k) ≡ g (w, k))
    → filter f ps ≡ filter g ps
filter_on f g [] h = refl
filter_on f g (p ∷ ps) h = grind (arith, eq-eqb, or_true, filter_on f g ps (λ w k o. h w k (rw o (or_true (is_pair w k p)))))

filter-filter : (f g : ℕ × ℕ → Bool) (ps : List (ℕ × ℕ)) → filter g (filter f ps) ≡ filter (λ p. f p && g p) ps
filter-filter f g [] = refl
filter-filter f g (p ∷ ps) = grind (arith, filter-filter f g ps)

-- what waits from n on, below the count
first_waits : (count n : ℕ) → n < count → range_with_len n (count - n) ≡ n ∷ range_with_len (suc n) (count - suc n)
first_waits count n lt = grind arith

none_waits : (count n : ℕ) → count ≤ n → range_with_len n (count - n) ≡ []
none_waits count n le = let e : count - n ≡ 0 = omega arith in ap (λ m. range_with_len n m) e

-- a worker that holds nothing has nothing out
has_none_out : (c : Core) (w : ℕ) (taken : List (ℕ × ℕ)) → is_holding (c.state w) ≡ false
    → has_out w (filter (is_held c) taken) ≡ false
has_none_out c w taken free =
    any-filter_same (λ (p : ℕ × ℕ). w == p.0) (is_held c) false (λ p e. let same : w ≡ p.0 = eqb-true w p.0 e in
    ap (λ v. holds_job (c.state v) p.1) (sym same) ∙ free_holds (c.state w) p.1 free) taken

holds_itself : (s : State) (k : ℕ) → s ≡ Holding k → holds_job s k ≡ true
holds_itself s k e = ap (λ t. holds_job t k) e ∙ eq-eqb k k refl

-- what a worker holds is out with it
is_out_held : (c : Core) (w k : ℕ) (taken : List (ℕ × ℕ)) → c.state w ≡ Holding k → is_out w k taken ≡ true
    → is_out w k (filter (is_held c) taken) ≡ true
is_out_held c w k taken holding there =
    any-filter_same (is_pair w k) (is_held c) true (λ p e. let q = and_parts (w == p.0) (k == p.1) e in
    let v : w ≡ p.0 = eqb-true w p.0 q.0 in let j : k ≡ p.1 = eqb-true k p.1 q.1 in
    ap (λ u. holds_job (c.state u) p.1) (sym v)
    ∙ (ap (λ i. holds_job (c.state w) i) (sym j) ∙ holds_itself (c.state w) k holding)) taken ∙ there

-- the pairs that were held, when one more was taken
held_after_take : (count : ℕ) (c : Core) (taken : List (ℕ × ℕ)) → Stands count c taken → (x : Step) (k : ℕ)
    → c.state (worker_of x) ≡ Looked k → c.next ≡ k → reply_to count c x ≡ Took k
    → filter (is_held c) taken ++ (worker_of x, k) ∷ [] ≡ filter (is_held (after count c x))
    (taken ++ (worker_of x, k) ∷ [])
held_after_take count c taken h x k looked at e = grind (arith, filter-append, filter_on, holds_itself, ne_eqb, state_by, state_here)

and_not : (b : Bool) → b && not b ≡ false
and_not true = refl
and_not false = refl

and_true : (b : Bool) → b && true ≡ b
and_true true = refl
and_true false = refl

-- the pairs that were held, when one was handed back
held_after_hand : (count : ℕ) (c : Core) (taken : List (ℕ × ℕ)) (x : Step) (k : ℕ) → c.state (worker_of x) ≡ Holding k
    → reply_to count c x ≡ Handed
    → without (worker_of x) k (filter (is_held c) taken) ≡ filter (is_held (after count c x)) taken
held_after_hand count c taken x k holding e = grind (arith, and_not, and_true, eq-eqb, filter-filter, filter_same, ne_eqb, state_by)

module _ {A : Type 0} where
  pub board_after-append : (b : SequentialBoard A) (xs ys : List (Call A))
      → board_after b (xs ++ ys) ≡ board_after (board_after b xs) ys
  board_after-append b [] ys = refl
  board_after-append b (x ∷ xs) ys = board_after-append (moved b x) xs ys

  -- where nothing is taken or given
  stays : (count : ℕ) (c d : Core) (taken : List (ℕ × ℕ)) (answers : List (ℕ × A)) (b : SequentialBoard A)
      → StandsAt count c taken answers b → d.next ≡ c.next → ((p : ℕ × ℕ) → is_held d p ≡ is_held c p)
      → StandsAt count d taken answers b
  stays count c d taken answers b s next same = grind (arith, filter_same)

  module _ (fits : ℕ → A → Type 0) (said : ℕ → ℕ → A) (fit : (k cost : ℕ) → fits k (said k cost)) where
    -- calls that lead from one board to another, and what follows them
    pub record Leads (b : SequentialBoard A) (calls : List (Call A)) (count : ℕ) (c : Core) (taken : List (ℕ × ℕ))
        (answers : List (ℕ × A)) : Type 0 where
      pub legal : (rest : List (Call A)) → Legal fits (board_after b calls) rest → Legal fits b (calls ++ rest)
      pub at : StandsAt count c taken answers (board_after b calls)

    plain : (b : SequentialBoard A) (calls : List (Call A)) (count : ℕ) (c : Core) (taken : List (ℕ × ℕ))
        (answers : List (ℕ × A)) → Leads b calls count c taken answers
        → Leads b calls count c (taken ++ []) (answers ++ [])
    plain b calls count c taken answers h = rw (append-nil taken, append-nil answers) h

    pub leads : (count : ℕ) (c : Core) (taken : List (ℕ × ℕ)) (answers : List (ℕ × A)) (b : SequentialBoard A)
        → Stands count c taken → StandsAt count c taken answers b → (x : Step)
        → Leads b (calls_of said (c.state (worker_of x)) x (reply_to count c x)) count (after count c x)
        (taken ++ taken_by (worker_of x) (reply_to count c x))
        (answers ++ map (given said) (accepted (c.state (worker_of x)) x (reply_to count c x)))
    leads count c taken answers b h at x =
        let w : ℕ = worker_of x in
        let s : State = c.state w in
        let d : Core = after count c x in
        let P : Reply → Type 0 = λ r. Leads b (calls_of said s x r) count d (taken ++ taken_by w r)
        (answers ++ map (given said) (accepted s x r)) in
        let same : (r : Reply) → reply_to count c x ≡ r → next_after c.next r ≡ c.next
        → ((k : ℕ) → holds_job (state_after s r) k ≡ holds_job s k) → StandsAt count d taken answers b =
        λ r e n q. stays count c d taken answers b at (ap (λ t. next_after c.next t) e ∙ n)
        (same_held count c x r e q) in
        elim (effect count c x) [
          | finds costs free lt e ↦ subst P (sym e)
              (plain b [] count d taken answers record {
                legal = λ rest l. l;
                at = same _ e refl (λ k. sym (free_holds s k free));
              })
          | misses costs free lt e ↦ subst P (sym e)
              (plain b [] count d taken answers record {
                legal = λ rest l. l;
                at = same _ e refl (λ k. sym (free_holds s k free));
              })
          | none costs free all e ↦ subst P (sym e) (plain b (sequential.NoneLeft w ∷ []) count d taken answers record {
            legal = λ rest l. (at.waiting ∙ none_waits count c.next all, l);
            at = same _ e refl (λ k. sym (free_holds s k free));
          })
          | wins k costs looked here e ↦ subst P (sym e) (
              let lt : k < count = looked_within count k s looked (h.within w) in
              let few : c.next < count = omega arith in
              let waits : b.waiting ≡ k ∷ range_with_len (suc k) (count - suc k) =
              at.waiting ∙ (first_waits count c.next few
              ∙ ap (λ n. n ∷ range_with_len (suc n) (count - suc n)) here) in
              let free : is_holding s ≡ false = ap is_holding looked in
              let next : d.next ≡ suc k = ap (λ q. next_after c.next q) e in
              let Q : List (ℕ × A) → Type 0 =
              λ a. Leads b (sequential.Took w k ∷ []) count d (taken ++ (w, k) ∷ []) a in
              subst Q (sym (append-nil answers)) record {
                legal = λ rest l. (
                  (
                    (range_with_len (suc k) (count - suc k), waits),
                    ap (λ t. has_out w t) at.out
                        ∙ has_none_out c w taken free,
                  ),
                  l,
                );
                at = record {
                  waiting = ap (λ t. drop 1 t) waits ∙ ap (λ n. range_with_len n (count - n)) (sym next);
                  out = ap (λ t. t ++ (w, k) ∷ []) at.out ∙ held_after_take count c taken h x k looked here e;
                  done = at.done;
                };
              })
          | returns v cost k is holding by costs e ↦ subst P (sym e) (
              let next : d.next ≡ c.next = ap (λ q. next_after c.next q) e in
              rw (by, append-nil taken) record {
                legal = λ rest l. (
                  (
                    ap (λ t. is_out w k t) at.out ∙ is_out_held c w k taken holding (h.has w k holding),
                    fit k cost,
                  ),
                  l,
                );
                at = record {
                  waiting = at.waiting ∙ ap (λ n. range_with_len n (count - n)) (sym next);
                  out = ap (λ t. without w k t) at.out ∙ held_after_hand count c taken x k holding e;
                  done = ap (λ t. t ++ (k, said k cost) ∷ []) at.done;
                };
              })
          | waits costs e ↦ subst P (sym e)
              (plain b [] count d taken answers record { legal = λ rest l. l; at = same _ e refl (λ k. refl) })
        ]

    -- the law for any steps
    pub law : (count : ℕ) (xs : List Step) (c : Core) (taken : List (ℕ × ℕ)) (answers : List (ℕ × A))
        (b : SequentialBoard A) → Stands count c taken → StandsAt count c taken answers b
        → Legal fits b (history said count c xs) × StandsAt count (ends count c xs) (taken ++ takes (played count c xs))
        (answers ++ map (given said) (hand_backs count c xs)) (board_after b (history said count c xs))
    law count [] c taken answers b h at = (tt, rw (append-nil taken, append-nil answers) at)
    law count (x ∷ xs) c taken answers b h at =
        let w : ℕ = worker_of x in
        let r : Reply = reply_to count c x in
        let d : Core = after count c x in
        let calls : List (Call A) = calls_of said (c.state w) x r in
        let handed : List (ℕ × ℕ) = accepted (c.state w) x r in
        let l = leads count c taken answers b h at x in
        let rest = law count xs d (taken ++ taken_by w r) (answers ++ map (given said) handed) (board_after b calls)
        (stands count c taken h x) l.at in
        let same_taken : (taken ++ taken_by w r) ++ takes (played count d xs)
        ≡ taken ++ (taken_by w r ++ takes (played count d xs)) =
        append_assoc taken (taken_by w r) (takes (played count d xs)) in
        let same_answers : (answers ++ map (given said) handed) ++ map (given said) (hand_backs count d xs)
        ≡ answers ++ map (given said) (handed ++ hand_backs count d xs) =
        append_assoc answers (map (given said) handed) (map (given said) (hand_backs count d xs))
        ∙ ap (λ t. answers ++ t) (sym (map-append (given said) handed (hand_backs count d xs))) in
        let R : SequentialBoard A → Type 0 =
        λ q. StandsAt count (ends count d xs) (taken ++ (taken_by w r ++ takes (played count d xs)))
        (answers ++ map (given said) (handed ++ hand_backs count d xs)) q in (
          l.legal (history said count d xs) rest.0,
          subst R (sym (board_after-append b calls (history said count d xs)))
              (rw same_answers at (rw same_taken at rest.1)),
        )

-- what any steps keep, at their end
pub stands_all : (count : ℕ) (xs : List Step) (c : Core) (taken : List (ℕ × ℕ)) → Stands count c taken
    → Stands count (ends count c xs) (taken ++ takes (played count c xs))
stands_all count [] c taken h = rw (append-nil taken) h
stands_all count (x ∷ xs) c taken h =
    grind (
      arith,
      append_assoc,
      stands,
      stands_all count xs (after count c x) (taken ++ taken_by (worker_of x) (reply_to count c x)) (stands count c taken h x),
    )

pub exact_step : (count : ℕ) (c : Core) (taken : List (ℕ × ℕ)) → Stands count c taken → (x : Step)
    → IsExactReply count c (worker_of x) (reply_to count c x)
exact_step count c taken h x = grind (arith, effect, finds, misses, none, returns, waits, wins)

pub exact : (count : ℕ) (xs : List Step) (c : Core) (taken : List (ℕ × ℕ)) → Stands count c taken → IsExact count c xs
exact count [] c taken h = tt
exact count (x ∷ xs) c taken h = grind (arith, exact_step, stands, exact count xs (after count c x) _ (stands count c taken h x))

-- the law for a whole list, from the opening
module _ {A : Type 0} (fits : ℕ → A → Type 0) (said : ℕ → ℕ → A) (fit : (k cost : ℕ) → fits k (said k cost)) where
  starts : (count : ℕ) → StandsAt {A = A} count (opening count) [] [] (opened count)
  starts count = grind arith

  pub whole : (count : ℕ) (xs : List Step)
      → Legal fits (opened count) (history said count (opening count) xs)
      × StandsAt count (ends count (opening count) xs) (takes (played count (opening count) xs))
      (map (given said) (hand_backs count (opening count) xs))
      (board_after (opened count) (history said count (opening count) xs))
  whole count xs = law fits said fit count xs (opening count) [] [] (opened count) (begins count) (starts count)

-- for `play`
pub legal : (count : ℕ) (xs : List Step) → play.IsLegal count xs
legal count xs = (whole (λ k cost. Unit {0}) (λ k cost. cost) (λ k cost. tt) count xs).0

pub once : (count : ℕ) (xs : List Step) → play.TakesEachOnce count xs
once count xs = (stands_all count xs (opening count) [] (begins count)).once

pub ends_alike : (count : ℕ) (xs : List Step) → play.EndsAlike count xs
ends_alike count xs =
    let s = (whole (λ k cost. Unit {0}) (λ k cost. cost) (λ k cost. tt) count xs).1 in
    record { waiting = s.waiting; out = s.out; done = s.done ∙ map-id (hand_backs count (opening count) xs) }

pub exact_play : (count : ℕ) (xs : List Step) → IsExact count (opening count) xs
exact_play count xs = exact count xs (opening count) [] (begins count)

pub within_final : (count : ℕ) (xs : List Step) (w : ℕ) → IsWithin count ((play.final count xs).state w)
within_final count xs w = (stands_all count xs (opening count) [] (begins count)).within w
