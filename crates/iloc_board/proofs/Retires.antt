-- What was handed back: each job once, by whom took it, at the cost that stands.
use Rattle.iloc_board.proofs.Common.{◌≡◌, ℕ, suc, ◌<◌, ◌≤◌, true, false, ◌≢◌, ◌⊎◌, List, [], ◌∷◌, ◌++◌, length, slice_get, slice_set, Some, Contains, sym, refl, ap, ◌∙◌, subst, inl, inr, append_assoc, append-nil, arith, cases_eq, length-replicate, Contains-append_left, Contains-append_right, Contains-push_cases, NoneTwice, jobs_of, Core, after, costs_at, ends, entry, is_holding, next_after, opening, played, reply_to, state_after, worker_of, accepted, handed_by, taken_by, takes, entries_of, handed, state_of, final, is_out, State, Free, Holding, Looked, Entry, Reply, Handed, NotNow, Took, Step}
use Rattle.iloc_board.proofs.Lists.{contains_none, contains_here, contains_one, get_set_same, get_set_other, none_twice-append}
use Rattle.iloc_board.proofs.Effects.{finds, misses, none, wins, returns, waits, effect, state_here, state_else}
use Rattle.iloc_board.proofs.Runs.{length-costs}
use Rattle.iloc_board.proofs.Taking.{Stands, begins, stands, state_by, holds_by, out_split}
use Rattle.iloc_board.proofs.Parts.{entries_here, entries_else, state_from-snoc, handed_from-snoc}

-- of the core c after the entries es, and the takes so far
pub record Retired (c : Core) (taken : List (ℕ × ℕ)) (es : List Entry) : Type 0 where
  pub state : (w : ℕ) → c.state w ≡ state_of (entries_of w es)
  pub low : (w k cost : ℕ) → Contains (handed (entries_of w es)) (k, cost) → k < c.next
  pub gone : (w v k cost : ℕ) → Contains (handed (entries_of w es)) (k, cost) → c.state v ≡ Holding k → ⊥
  pub cost_stands : (w k cost : ℕ) → Contains (handed (entries_of w es)) (k, cost) → slice_get c.costs k ≡ Some cost
  pub one : (w v k a b : ℕ) → Contains (handed (entries_of w es)) (k, a) → Contains (handed (entries_of v es)) (k, b)
      → w ≡ v
  pub twice : (w : ℕ) → NoneTwice (jobs_of (handed (entries_of w es)))
  pub fate : (w k : ℕ) → is_out w k taken ≡ true → (c.state w ≡ Holding k)
      ⊎ ((cost : ℕ) × Contains (handed (entries_of w es)) (k, cost))

pub retires_first : (count : ℕ) → Retired (opening count) [] []
retires_first count = grind (arith, contains_none)

state_more : (count : ℕ) (c : Core) (es : List Entry) (x : Step) → ((w : ℕ) → c.state w ≡ state_of (entries_of w es))
    → (w : ℕ) → (after count c x).state w ≡ state_of (entries_of w (es ++ entry x (reply_to count c x) ∷ []))
state_more count c es x h w = grind (arith, cases_eq, entries_else, entries_here, state_else, state_from-snoc, state_here)

-- what a worker handed back, after a step that hands nothing back
same_handed : (count : ℕ) (c : Core) (es : List Entry) (x : Step) (r : Reply) → reply_to count c x ≡ r
    → ((s : State) → accepted s x r ≡ []) → (w : ℕ)
    → handed (entries_of w (es ++ entry x (reply_to count c x) ∷ [])) ≡ handed (entries_of w es)
same_handed count c es x r e clean w = grind (arith, append-nil, cases_eq, entries_else, entries_here, handed_from-snoc)

-- a step that hands nothing back
idles : (count : ℕ) (c : Core) (taken : List (ℕ × ℕ)) (es : List Entry) → Stands count c taken → Retired c taken es
    → (x : Step) (r : Reply) → reply_to count c x ≡ r → ((s : State) → accepted s x r ≡ [])
    → c.next ≤ (after count c x).next → (after count c x).costs ≡ c.costs
    → ((w v k cost : ℕ) → Contains (handed (entries_of w es)) (k, cost) → (after count c x).state v ≡ Holding k → ⊥)
    → (later : List (ℕ × ℕ)) → ((w k : ℕ) → is_out w k later ≡ true → ((after count c x).state w ≡ Holding k)
    ⊎ ((cost : ℕ) × Contains (handed (entries_of w es)) (k, cost)))
    → Retired (after count c x) later (es ++ entry x (reply_to count c x) ∷ [])
idles count c taken es st h x r e clean rises costs gone later fate =
    let now : List Entry = es ++ entry x (reply_to count c x) ∷ [] in
    let same : (w : ℕ) → handed (entries_of w now) ≡ handed (entries_of w es) = same_handed count c es x r e clean in
    let old : (w k cost : ℕ) → Contains (handed (entries_of w now)) (k, cost)
    → Contains (handed (entries_of w es)) (k, cost) = λ w k cost t. let P : List (ℕ × ℕ) → Type 0 =
    λ q. Contains q (k, cost) in subst P (same w) t in
    record {
      state = state_more count c es x h.state;
      low = λ w k cost t. let lt : k < c.next = h.low w k cost (old w k cost t) in omega arith;
      gone = λ w v k cost t. gone w v k cost (old w k cost t);
      cost_stands = λ w k cost t. ap (λ q. slice_get q k) costs ∙ h.cost_stands w k cost (old w k cost t);
      one = λ w v k a b t u. h.one w v k a b (old w k a t) (old v k b u);
      twice = λ w. rw (same w) (h.twice w);
      fate = λ w k o. elim (fate w k o) [
        | inl p ↦ inl p
        | inr p ↦
            inr (p.0, rw (same w) p.1)
      ];
    }

-- a job that its worker hands back
hands_one : (count : ℕ) (c : Core) (taken : List (ℕ × ℕ)) (es : List Entry) → Stands count c taken → Retired c taken es
    → length c.costs ≡ count → (x : Step) (cost k : ℕ)
    → c.state (worker_of x) ≡ Holding k → handed_by (c.state (worker_of x)) x ≡ (k, cost) ∷ []
    → costs_at c.costs (c.state (worker_of x)) x ≡ slice_set c.costs k cost → reply_to count c x ≡ Handed
    → Retired (after count c x) taken (es ++ entry x (reply_to count c x) ∷ [])
hands_one count c taken es st h long x cost k holding by costs e =
    let v : ℕ = worker_of x in
    let d : Core = after count c x in
    let r : Reply = reply_to count c x in
    let now : List Entry = es ++ entry x r ∷ [] in
    let next : d.next ≡ c.next = ap (λ q. next_after c.next q) e in
    let few : k < c.next = st.below v k (st.has v k holding) in
    let capacity : k < count = let low : c.next ≤ count = st.low in omega arith in
    let mine : handed (entries_of v now) ≡ handed (entries_of v es) ++ (k, cost) ∷ [] =
    ap handed (entries_here v es x r refl)
    ∙ (handed_from-snoc Free (entries_of v es) x r
    ∙ ap (λ t. handed (entries_of v es) ++ t) (ap (λ q. accepted (state_of (entries_of v es)) x q) e
    ∙ (ap (λ s. handed_by s x) (sym (h.state v)) ∙ by))) in
    let other : (w : ℕ) → w ≢ v → handed (entries_of w now) ≡ handed (entries_of w es) =
    λ w ne. ap handed (entries_else w es x r ne) in
    -- a pair is old, or it is the new one
    let split : (w j a : ℕ) → Contains (handed (entries_of w now)) (j, a) → Contains (handed (entries_of w es)) (j, a)
    ⊎ ((w ≡ v) × (j ≡ k) × (a ≡ cost)) = λ w j a t.
    elim (cases_eq w v) [
      | inl same ↦
          elim (Contains-push_cases (handed (entries_of v es)) (k, cost) (j, a)
          (rw mine at (rw same at t))) [
            | inl p ↦ inl (rw same p)
            | inr q ↦ inr (same, ap (λ (z : ℕ × ℕ). z.0) (sym q), ap (λ (z : ℕ × ℕ). z.1) (sym q))
          ]
      | inr ne ↦ inl (rw (other w ne) at t)
    ] in
    let keep : (w j a : ℕ) → Contains (handed (entries_of w es)) (j, a) → Contains (handed (entries_of w now)) (j, a) =
    λ w j a t.
    elim (cases_eq w v) [
      | inl same ↦
          rw (same, mine) (Contains-append_left (handed (entries_of v es)) ((k, cost) ∷ [])
          (j, a) (rw same at t))
      | inr ne ↦ rw (other w ne) t
    ] in
    let held : (w j : ℕ) → d.state w ≡ Holding j → (w ≢ v) × (c.state w ≡ Holding j) = λ w j is.
    elim (state_by count c x Handed e w) [
      | inl p ↦ let free : Free ≡ Holding j = sym p.1 ∙ is in absurd (cc)
      | inr p ↦ (p.0, sym p.1 ∙ is)
    ] in
    -- the job was not handed back before
    let fresh : (w a : ℕ) → Contains (handed (entries_of w es)) (k, a) → ⊥ = λ w a t. h.gone w v k a t holding in
    record {
      state = state_more count c es x h.state;
      low = λ w j a t. elim (split w j a t) [
        | inl p ↦ let lt : j < c.next = h.low w j a p in omega arith
        | inr p ↦
            let eq : j ≡ k = p.1 in omega arith
      ];
      gone = λ w u j a t is.
          let was = held u j is in
          elim (split w j a t) [
            | inl p ↦ h.gone w u j a p was.1
            | inr p ↦ was.0 (st.one u v j was.1 (holding ∙ ap Holding (sym p.1)))
          ];
      cost_stands = λ w j a t.
          ap (λ q. slice_get q j) costs ∙ elim (split w j a t) [
            | inl p ↦
                let ne : j ≢ k = λ q. fresh w a (rw q at p) in
                get_set_other c.costs k j cost ne ∙ h.cost_stands w j a p
            | inr p ↦ ap (λ z. slice_get (slice_set c.costs k cost) z) p.1
                ∙ (get_set_same c.costs k cost (omega arith) ∙ ap (λ z. Some z) (sym p.2))
          ];
      one = λ w u j a b t s.
          elim (split w j a t) [
            | inl p ↦ elim (split u j b s) [
              | inl q ↦ h.one w u j a b p q
              | inr q ↦ absurd (fresh w a (rw q.1 at p))
            ]
            | inr p ↦ elim (split u j b s) [
              | inl q ↦ absurd (fresh u b (rw p.1 at q))
              | inr q ↦ p.0 ∙ sym q.0
            ]
          ];
      twice = λ w.
          elim (cases_eq w v) [
            | inl same ↦
                rw (same, mine) (none_twice-append (handed (entries_of v es)) ((k, cost) ∷ [])
                (h.twice v) (refl, tt)
                (λ j a b x y. let is : k ≡ j = ap (λ (z : ℕ × ℕ). z.0) (contains_one (k, cost) (j, b) y) in
                fresh v a (rw is x)))
            | inr ne ↦ rw (other w ne) (h.twice w)
          ];
      fate = λ w j o.
          elim (h.fate w j o) [
            | inl p ↦ elim (cases_eq w v) [
              | inl same ↦
                  let is : Holding j ≡ Holding k = sym p ∙ (ap c.state same ∙ holding) in
                  let eq : j ≡ k = cc in
                  inr (
                    cost,
                    rw same
                        (rw mine (Contains-append_right (handed (entries_of v es)) ((k, cost) ∷ []) (j, cost)
                        (contains_here (k, cost) [] (j, cost) (ap (λ z. (z, cost)) (sym eq))))),
                  )
              | inr ne ↦ inl (state_else count c x w ne ∙ p)
            ]
            | inr p ↦ inr (p.0, keep w j p.0 p.1)
          ];
    }

-- one step more
pub retires : (count : ℕ) (c : Core) (taken : List (ℕ × ℕ)) (es : List Entry) → Stands count c taken
    → Retired c taken es → length c.costs ≡ count → (x : Step)
    → Retired (after count c x) (taken ++ taken_by (worker_of x) (reply_to count c x))
    (es ++ entry x (reply_to count c x) ∷ [])
retires count c taken es st h long x =
    let w : ℕ = worker_of x in
    let d : Core = after count c x in
    let now : List Entry = es ++ entry x (reply_to count c x) ∷ [] in
    let P : Reply → Type 0 = λ r. Retired d (taken ++ taken_by w r) now in
    let plain : Retired d taken now → Retired d (taken ++ []) now = λ q. let Q : List (ℕ × ℕ) → Type 0 =
    λ t. Retired d t now in subst Q (sym (append-nil taken)) q in
    -- where the worker holds nothing, before and after
    let free : (r : Reply) → reply_to count c x ≡ r → is_holding (c.state w) ≡ false
    → ((s : State) (k : ℕ) → state_after s r ≡ Holding k → s ≡ Holding k) → ((s : State) → accepted s x r ≡ [])
    → next_after c.next r ≡ c.next → d.costs ≡ c.costs → Retired d taken now =
    λ r e idle holds clean next costs.
    let old : (v k : ℕ) → d.state v ≡ Holding k → c.state v ≡ Holding k = holds_by count c x r e holds in
    idles count c taken es st h x r e clean (let n : d.next ≡ c.next = ap (λ q. next_after c.next q) e ∙ next in
    omega arith) costs (λ u v k cost t is. h.gone u v k cost t (old v k is)) taken
    (λ u k o. elim (h.fate u k o) [
      | inl p ↦
          let ne : u ≢ w = λ q. let is : false ≡ true =
          sym idle ∙ (ap (λ z. is_holding (c.state z)) (sym q) ∙ ap is_holding p) in absurd (cc) in
          inl (state_else count c x u ne ∙ p)
      | inr p ↦ inr p
    ]) in
    elim (effect count c x) [
      | finds costs idle lt e ↦ subst P (sym e) (plain (free _ e idle (λ s k f. absurd (cc)) (λ s. refl) refl costs))
      | misses costs idle lt e ↦ subst P (sym e) (plain (free _ e idle (λ s k f. absurd (cc)) (λ s. refl) refl costs))
      | none costs idle all e ↦ subst P (sym e) (plain (free _ e idle (λ s k f. absurd (cc)) (λ s. refl) refl costs))
      | wins k costs looked here e ↦ subst P (sym e) (
          let next : d.next ≡ suc k = ap (λ q. next_after c.next q) e in
          let new : (v j : ℕ) → d.state v ≡ Holding j → (j ≡ k) ⊎ (c.state v ≡ Holding j) = λ v j is.
          elim (state_by count c x (Took k) e v) [
            | inl p ↦ let q : Holding j ≡ Holding k = sym is ∙ p.1 in inl (cc)
            | inr p ↦ inr (sym p.1 ∙ is)
          ] in
          idles count c taken es st h x (Took k) e (λ s. refl) (omega arith) costs
          (λ u v j cost t is. elim (new v j is) [
            | inl p ↦ let lt : j < c.next = h.low u j cost t in
                absurd (omega arith)
            | inr p ↦ h.gone u v j cost t p
          ])
          (taken ++ (w, k) ∷ [])
          (λ u j o. elim (out_split u j w k taken o) [
            | inl p ↦ elim (h.fate u j p) [
              | inl q ↦
                  let ne : u ≢ w = λ z. let is : Holding j ≡ Looked k = sym q ∙ (ap c.state z ∙ looked) in
                  absurd (cc) in
                  inl (state_else count c x u ne ∙ q)
              | inr q ↦ inr q
            ]
            | inr p ↦ inl (state_here count c x u p.0 ∙ (ap (λ r. state_after (c.state u) r) e ∙ ap Holding (sym p.1)))
          ]))
      | returns v cost k is holding by costs e ↦
          subst P (sym e) (plain (hands_one count c taken es st h long x cost k holding by costs e))
      | waits costs e ↦ subst P (sym e) (plain (
          let same : (v : ℕ) → d.state v ≡ c.state v = λ v. elim (state_by count c x NotNow e v) [
            | inl p ↦ p.1
            | inr p ↦
                p.1
          ] in
          idles count c taken es st h x NotNow e (λ s. refl)
          (let n : d.next ≡ c.next = ap (λ q. next_after c.next q) e in omega arith) costs
          (λ u v k cost t z. h.gone u v k cost t (sym (same v) ∙ z)) taken
          (λ u k o. elim (h.fate u k o) [ inl p ↦ inl (same u ∙ p) | inr p ↦ inr p ])))
    ]

-- after all steps
pub retires_all : (count : ℕ) (xs : List Step) (c : Core) (taken : List (ℕ × ℕ)) (es : List Entry)
    → Stands count c taken → Retired c taken es → length c.costs ≡ count
    → Retired (ends count c xs) (taken ++ takes (played count c xs)) (es ++ played count c xs)
retires_all count [] c taken es st h long = rw (append-nil taken, append-nil es) h
retires_all count (x ∷ xs) c taken es st h long =
    let r : Reply = reply_to count c x in
    let d : Core = after count c x in
    let rest = retires_all count xs d (taken ++ taken_by (worker_of x) r) (es ++ entry x r ∷ [])
    (stands count c taken st x) (retires count c taken es st h long x) (length-costs count c x ∙ long) in
    rw (append_assoc es (entry x r ∷ []) (played count d xs)) at
    (rw (append_assoc taken (taken_by (worker_of x) r) (takes (played count d xs))) at rest)

pub retired_final : (count : ℕ) (xs : List Step) → Retired (final count xs) (takes (played count (opening count) xs))
    (played count (opening count) xs)
retired_final count xs = retires_all count xs (opening count) [] [] (begins count) (retires_first count)
    (length-replicate count 0)
