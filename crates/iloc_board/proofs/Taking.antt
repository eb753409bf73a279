-- What any steps keep: each job is taken once, in order, and is held by whom took it.
use Rattle.iloc_board.proofs.Common.{◌≡◌, ℕ, zero, suc, ◌+◌, ◌<◌, ◌≤◌, true, false, ◌≢◌, ◌⊎◌, List, [], ◌∷◌, ◌++◌, map, ◌==◌, sym, refl, ap, ◌∙◌, subst, inl, inr, append-nil, arith, eq-eqb, eqb-true, and_from, and_parts, cases_eq, or_cases, or_left, or_right, map-append, list_any-append, range_with_len, Core, IsWithin, after, next_after, opening, reply_to, state_after, worker_of, taken_by, is_out, is_pair, State, Holding, Looked, Reply, Took, Step}
use Rattle.iloc_board.proofs.Effects.{finds, misses, none, wins, returns, waits, effect, state_here, state_else}

-- after some steps: the core c, and the takes so far
pub record Stands (count : ℕ) (c : Core) (taken : List (ℕ × ℕ)) : Type 0 where
  pub low : c.next ≤ count
  pub within : (w : ℕ) → IsWithin count (c.state w)
  pub once : map (λ p. p.1) taken ≡ range_with_len 0 c.next
  pub below : (w k : ℕ) → is_out w k taken ≡ true → k < c.next
  pub has : (w k : ℕ) → c.state w ≡ Holding k → is_out w k taken ≡ true
  pub one : (w v k : ℕ) → c.state w ≡ Holding k → c.state v ≡ Holding k → w ≡ v

pub begins : (count : ℕ) → Stands count (opening count) []
begins count = grind arith

-- a worker's state after a step, by the reply
pub state_by : (count : ℕ) (c : Core) (x : Step) (r : Reply) → reply_to count c x ≡ r → (w : ℕ)
    → ((w ≡ worker_of x) × ((after count c x).state w ≡ state_after (c.state w) r))
    ⊎ ((w ≢ worker_of x) × ((after count c x).state w ≡ c.state w))
state_by count c x r e w = grind (arith, cases_eq, state_else, state_here)

pub within_by : (count : ℕ) (c : Core) (x : Step) (r : Reply) → reply_to count c x ≡ r
    → ((w : ℕ) → IsWithin count (c.state w)) → ((s : State) → IsWithin count s → IsWithin count (state_after s r))
    → (w : ℕ) → IsWithin count ((after count c x).state w)
within_by count c x r e within step w = grind (arith, state_by)

pub holds_by : (count : ℕ) (c : Core) (x : Step) (r : Reply) → reply_to count c x ≡ r
    → ((s : State) (k : ℕ) → state_after s r ≡ Holding k → s ≡ Holding k)
    → (w k : ℕ) → (after count c x).state w ≡ Holding k → c.state w ≡ Holding k
holds_by count c x r e step w k is = grind (arith, state_by)

-- a step that takes nothing
idles : (count : ℕ) (c : Core) (taken : List (ℕ × ℕ)) → Stands count c taken → (x : Step) (r : Reply)
    → reply_to count c x ≡ r → next_after c.next r ≡ c.next
    → ((s : State) → IsWithin count s → IsWithin count (state_after s r))
    → ((s : State) (k : ℕ) → state_after s r ≡ Holding k → s ≡ Holding k)
    → Stands count (after count c x) taken
idles count c taken h x r e stays within holds =
    let next : (after count c x).next ≡ c.next = ap (λ q. next_after c.next q) e ∙ stays in
    let old : (w k : ℕ) → (after count c x).state w ≡ Holding k → c.state w ≡ Holding k =
    holds_by count c x r e holds in
    record {
      low = rw next h.low;
      within = within_by count c x r e h.within within;
      once = h.once ∙ ap (λ n. range_with_len 0 n) (sym next);
      below = λ w k o. rw next (h.below w k o);
      has = λ w k o. h.has w k (old w k o);
      one = λ w v k o p. h.one w v k (old w k o) (old v k p);
    }

pub range_more : (a n j : ℕ) → a + n ≡ j → range_with_len a (suc n) ≡ range_with_len a n ++ j ∷ []
range_more a zero j e = let same : a ≡ j = omega arith in ap (λ k. k ∷ []) same
range_more a (suc n) j e = ap (λ t. a ∷ t) (range_more (a + 1) n j (omega arith))

pub looked_within : (count k : ℕ) (s : State) → s ≡ Looked k → IsWithin count s → k < count
looked_within count k s e h = rw e at h

pair_self : (w k : ℕ) → is_pair w k (w, k) ≡ true
pair_self w k = and_from (w == w) (k == k) (eq-eqb w w refl) (eq-eqb k k refl)

pub out_at_end : (w k : ℕ) (taken : List (ℕ × ℕ)) → is_out w k (taken ++ (w, k) ∷ []) ≡ true
out_at_end w k taken = list_any-append (is_pair w k) taken ((w, k) ∷ [])
    ∙ or_right (is_out w k taken) _ (or_left (is_pair w k (w, k)) false (pair_self w k))

pub out_more : (w k v j : ℕ) (taken : List (ℕ × ℕ)) → is_out w k taken ≡ true → is_out w k (taken ++ (v, j) ∷ []) ≡ true
out_more w k v j taken o = list_any-append (is_pair w k) taken ((v, j) ∷ []) ∙ or_left (is_out w k taken) _ o

pub out_split : (w k v j : ℕ) (taken : List (ℕ × ℕ)) → is_out w k (taken ++ (v, j) ∷ []) ≡ true
    → (is_out w k taken ≡ true) ⊎ ((w ≡ v) × (k ≡ j))
out_split w k v j taken o = grind (arith, and_parts, eqb-true, list_any-append, or_cases)

takes_one : (count : ℕ) (c : Core) (taken : List (ℕ × ℕ)) → Stands count c taken → (x : Step) (k : ℕ)
    → c.state (worker_of x) ≡ Looked k → c.next ≡ k → reply_to count c x ≡ Took k
    → Stands count (after count c x) (taken ++ (worker_of x, k) ∷ [])
takes_one count c taken h x k looked at e =
    let w : ℕ = worker_of x in
    let few : k < count = looked_within count k (c.state w) looked (h.within w) in
    let next : (after count c x).next ≡ suc k = ap (λ q. next_after c.next q) e in
    let by = state_by count c x (Took k) e in
    let new : (v j : ℕ) → (after count c x).state v ≡ Holding j → ((v ≡ w) × (j ≡ k))
    ⊎ ((v ≢ w) × (c.state v ≡ Holding j)) = λ v j is.
    elim (by v) [
      | inl p ↦ let q : Holding j ≡ Holding k = sym is ∙ p.1 in inl (p.0, cc)
      | inr p ↦ inr (p.0, sym p.1 ∙ is)
    ] in
    let held : (v j : ℕ) → c.state v ≡ Holding j → j < k = λ v j is. subst (λ (n : ℕ). j < n) at (h.below v j (h.has v j is)) in
    record {
      low = rw next (omega arith);
      within = within_by count c x (Took k) e h.within (λ s i. few);
      once =
          map-append (λ (p : ℕ × ℕ). p.1) taken ((w, k) ∷ [])
          ∙ (ap (λ t. t ++ k ∷ []) (h.once ∙ ap (λ n. range_with_len 0 n) at)
          ∙ (sym (range_more 0 k k (omega arith)) ∙ ap (λ n. range_with_len 0 n) (sym next)));
      below = λ v j o.
          rw next (elim (out_split v j w k taken o) [
            | inl p ↦ let lt : j < c.next = h.below v j p in omega arith
            | inr p ↦ let lt : j ≡ k = p.1 in omega arith
          ]);
      has = λ v j is.
          elim (new v j is) [
            | inl p ↦ rw (p.0, p.1) (out_at_end w k taken)
            | inr p ↦ out_more v j w k taken (h.has v j p.1)
          ];
      one = λ v u j is same.
          elim (new v j is) [
            | inl p ↦ elim (new u j same) [
              | inl q ↦ p.0 ∙ sym q.0
              | inr q ↦ let lt : j < k = held u j q.1 in let eq : j ≡ k = p.1 in absurd (omega arith)
            ]
            | inr p ↦ elim (new u j same) [
              | inl q ↦ let lt : j < k = held v j p.1 in let eq : j ≡ k = q.1 in absurd (omega arith)
              | inr q ↦ h.one v u j p.1 q.1
            ]
          ];
    }

-- one step more
pub stands : (count : ℕ) (c : Core) (taken : List (ℕ × ℕ)) → Stands count c taken → (x : Step)
    → Stands count (after count c x) (taken ++ taken_by (worker_of x) (reply_to count c x))
stands count c taken h x =
    let P : Reply → Type 0 = λ r. Stands count (after count c x) (taken ++ taken_by (worker_of x) r) in
    let same : Stands count (after count c x) taken → Stands count (after count c x) (taken ++ []) =
    λ s. rw (append-nil taken) s in
    elim (effect count c x) [
      | finds costs free lt e ↦ subst P (sym e)
          (same (idles count c taken h x _ e refl (λ s i. lt) (λ s k f. absurd (cc))))
      | misses costs free lt e ↦ subst P (sym e)
          (same (idles count c taken h x _ e refl (λ s i. lt) (λ s k f. absurd (cc))))
      | none costs free all e ↦ subst P (sym e)
          (same (idles count c taken h x _ e refl (λ s i. tt) (λ s k f. absurd (cc))))
      | wins k costs looked at e ↦ subst P (sym e) (takes_one count c taken h x k looked at e)
      | returns w cost k is holding by costs e ↦
          subst P (sym e) (same (idles count c taken h x _ e refl (λ s i. tt) (λ s j f. absurd (cc))))
      | waits costs e ↦ subst P (sym e) (same (idles count c taken h x _ e refl (λ s i. i) (λ s k f. f)))
    ]
