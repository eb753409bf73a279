-- The walk along the edges out of an issued operation keeps what is known of what waits; for `Waiting::issue`.
use Rattle.iloc_sched.proofs.Common.{◌≡◌, ℕ, ◌+◌, ◌-◌, ◌%◌, ◌<◌, ◌≤◌, max, Bool, true, false, ◌≢◌, ◌⊎◌, Some, None, Option, sym, ap, ◌∙◌, subst, inl, inr, arith, CanIssue, Progress, UpTo, Waits, count_from, Graph, IsGraph, IsLast}
use Rattle.iloc_sched.proofs.Walking.UnmetEdges.{not_true, without, without_it, without_other, count_same, count_less}
use Rattle.iloc_sched.proofs.Basics.Cases.{by_eq, by_lt, not_both}

-- what passes below n is at most the last that does
pub up_to_last : (P : ℕ → Type 0) (n : ℕ) (last : Option ℕ) (x : ℕ) → IsLast P n last → x < n → P x → UpTo last x
up_to_last P n last x is below passes = grind arith

-- what waits for edges is within all edges
pub within_count : (graph : Graph) → IsGraph graph → (j x : ℕ) → j < graph.ops → x < graph.start (j + 1)
    → x < graph.count
within_count graph is j x there below = grind arith

-- i is issued at cycle c: the edges out of it are unmet still
pub begins : (graph : Graph) (w : Progress) (f i c : ℕ) (issued' : ℕ → Option ℕ) → IsGraph graph
    → Waits graph w f 0 None → CanIssue graph w f i → c < f → issued' i ≡ Some c
    → ((k : ℕ) → k ≢ i → issued' k ≡ w.issued k) → Waits graph (record w { issued = issued' }) f i (graph.head i)
begins graph w f i c issued' is waits can before at others =
    let still : (k u : ℕ) → w.issued k ≡ Some u → issued' k ≡ Some u =
    λ k u was. others k (λ same. not_both (w.issued i) u can.waiting (ap w.issued (sym same) ∙ was)) ∙ was in
    let not_i : (k : ℕ) → issued' k ≡ None → k ≢ i =
    λ k none same. not_both (issued' i) c (ap issued' (sym same) ∙ none) at in
    record {
      is_unmet = waits.is_unmet;
      unmet = waits.unmet;
      ahead = grind arith;
      stuck = grind (arith, up_to_last);
      past = λ x there no. let h = waits.past x there no in (h.0, still _ _ h.1, h.2);
      reached = grind arith;
      complete = grind arith;
      times = grind arith;
      waits = λ j there none. waits.waits j there (sym (others j (not_i j none)) ∙ none);
      only = grind arith;
    }

-- of the edges out of i up to x those other than x are up to the one before it
pub up_to_previous : (graph : Graph) → IsGraph graph → (x y : ℕ) → x < graph.count → graph.from y ≡ graph.from x → y ≤ x
    → y ≢ x → UpTo (graph.previous x) y
up_to_previous graph is x y there same most apart = grind (arith, up_to_last)

-- the edge before x out of the same operation is another
below_last : (P : ℕ → Type 0) (n : ℕ) (last : Option ℕ) (y : ℕ) → IsLast P n last → UpTo last y → y < n
below_last P n None y last up = absurd up
below_last P n (Some m) y last up = let below : m < n = last.0 in omega arith

pub previous_below : (graph : Graph) → IsGraph graph → (x y : ℕ) → x < graph.count → UpTo (graph.previous x) y → y < x
previous_below graph is x y there = grind (arith, below_last)

module _ (graph : Graph) (w : Progress) (f i x : ℕ) (is : IsGraph graph) (waits : Waits graph w f i (Some x))
    (there : x < graph.count) (from_i : graph.from x ≡ i) where
  unmet_at : waits.is_unmet x ≡ true
  unmet_at = waits.ahead x there from_i (omega arith)

  -- the target of x has one less to wait for
  one_less : w.unmet (graph.to x) ≡ count_from (without waits.is_unmet x) (graph.start (graph.to x))
      (graph.start (graph.to x + 1) - graph.start (graph.to x)) + 1
  one_less =
      let j : ℕ = graph.to x in
      let place : (graph.to x < graph.ops) × (graph.start (graph.to x) ≤ x) × (x < graph.start (graph.to x + 1)) =
      is.to_there x there in
      let first : graph.start j ≤ x = place.1 in
      let last : x < graph.start (j + 1) = place.2 in
      waits.unmet j place.0
      ∙ count_less waits.is_unmet (without waits.is_unmet x) x unmet_at (without_it waits.is_unmet x)
      (without_other waits.is_unmet x) (graph.start j) (graph.start (j + 1) - graph.start j) first (omega arith)

  -- it has something to wait for
  pub some_unmet : 0 < w.unmet (graph.to x)
  some_unmet = let less = one_less in omega arith

  -- no other operation has
  others_same : (k : ℕ) → k < graph.ops → k ≢ graph.to x
      → w.unmet k ≡ count_from (without waits.is_unmet x) (graph.start k) (graph.start (k + 1) - graph.start k)
  others_same k within apart = grind (arith, count_same, without, without_other)

-- of n operations j alone goes into bucket b, where it has come to its last edge
pub record Enters (n : ℕ) (bucket bucket' : ℕ → ℕ → Bool) (b j : ℕ) (at_end : Type 0) : Type 0 where
  pub comes : at_end → bucket' b j ≡ true
  pub was : bucket' b j ≡ true → (bucket b j ≡ true) ⊎ at_end
  pub others : (a k : ℕ) → a < 32 → k < n → (a ≡ b → k ≡ j → ⊥) → bucket' a k ≡ bucket a k

-- edge x is over, and its target has one less to wait for
pub moves : (graph : Graph) (w : Progress) (f i x c p t : ℕ) (unmet' earliest' : ℕ → ℕ) (bucket' : ℕ → ℕ → Bool)
    → IsGraph graph → Waits graph w f i (Some x) → x < graph.count → graph.from x ≡ i → f ≡ c + 1 → w.issued i ≡ Some c
    → w.unmet (graph.to x) ≡ p + 1 → t ≡ max (w.earliest (graph.to x)) (c + graph.delay x)
    → unmet' (graph.to x) ≡ p → ((k : ℕ) → k ≢ graph.to x → unmet' k ≡ w.unmet k)
    → earliest' (graph.to x) ≡ t → ((k : ℕ) → k ≢ graph.to x → earliest' k ≡ w.earliest k)
    → Enters graph.ops w.bucket bucket' (t % 32) (graph.to x) (p ≡ 0)
    → Waits graph (record w { unmet = unmet'; earliest = earliest'; bucket = bucket' }) f i (graph.previous x)
moves graph w f i x c p t unmet' earliest' bucket' is waits there from_i now at_i was_p is_t at_unmet other_unmet
    at_earliest other_earliest enters =
    let j : ℕ = graph.to x in
    let j_there : j < graph.ops = (is.to_there x there).0 in
    let issued_x : w.issued (graph.from x) ≡ Some c = ap w.issued from_i ∙ at_i in
    let long : 1 ≤ graph.delay x = (is.delays x there).0 in
    let less : w.unmet j ≡ count_from (without waits.is_unmet x) (graph.start j) (graph.start (j + 1) - graph.start j) + 1 =
    one_less graph w f i x is waits there from_i in
    let waiting : (u : ℕ) → w.issued j ≡ Some u → ⊥ = λ u was. let done : w.unmet j ≡ 0 =
    waits.complete j u j_there was in absurd (omega arith) in
    record {
      is_unmet = without waits.is_unmet x;
      unmet = λ k within. by_eq k j
          (λ same. subst (λ k. unmet' k ≡ count_from (without waits.is_unmet x) (graph.start k)
          (graph.start (k + 1) - graph.start k)) (sym same) (at_unmet ∙ omega arith))
          (λ apart. other_unmet k apart ∙ others_same graph w f i x is waits there from_i k within apart);
      ahead = λ y below same up.
          let less : y < x = previous_below graph is x y there up in
          without_other waits.is_unmet x y (omega arith) ∙ waits.ahead y below same (omega arith);
      stuck = λ y within yes. by_eq y x
          (λ same. not_true (without waits.is_unmet x y)
          (subst (λ a. without waits.is_unmet x a ≡ false) (sym same) (without_it waits.is_unmet x)) yes)
          (λ apart. elim (waits.stuck y within (sym (without_other waits.is_unmet x y apart) ∙ yes)) [
            | inl none ↦ inl none
            | inr loose ↦ inr (
              loose.0,
              up_to_previous graph is x y there (loose.0 ∙ sym from_i) loose.1 apart,
            )
          ]);
      past = λ y within no. by_eq y x
          (λ same. (
            c,
            subst (λ a. w.issued (graph.from a) ≡ Some c) (sym same) issued_x,
            subst (λ a. c + graph.delay a ≤ earliest' (graph.to a)) (sym same)
                (subst (λ a. c + graph.delay x ≤ a) (sym at_earliest) (omega arith)),
          ))
          (λ apart.
          let h = waits.past y within (sym (without_other waits.is_unmet x y apart) ∙ no) in
          let le : h.0 + graph.delay y ≤ w.earliest (graph.to y) = h.2 in (
            h.0,
            h.1,
            by_eq (graph.to y) j
                (λ same.
                let e : earliest' (graph.to y) ≡ t = ap earliest' same ∙ at_earliest in
                let o : w.earliest (graph.to y) ≡ w.earliest j = ap w.earliest same in
                omega arith)
                (λ other.
                let e : earliest' (graph.to y) ≡ w.earliest (graph.to y) = other_earliest (graph.to y) other in
                omega arith),
          ));
      reached = λ k within. by_eq k j
          (λ same. let at_k : earliest' k ≡ t = ap earliest' same ∙ at_earliest in
          by_lt (w.earliest j) (c + graph.delay x)
          (λ later. inr (x, c, there, sym same, issued_x, omega arith))
          (λ sooner.
          let o : w.earliest k ≡ w.earliest j = ap w.earliest same in
          let e : earliest' k ≡ w.earliest k = omega arith in
          elim (waits.reached k within) [
            | inl none ↦ inl (e ∙ none)
            | inr h ↦ inr (h.0, h.1, h.2, h.3, h.4, e ∙ h.5)
          ]))
          (λ apart.
          let e : earliest' k ≡ w.earliest k = other_earliest k apart in
          elim (waits.reached k within) [
            | inl none ↦ inl (e ∙ none)
            | inr h ↦ inr (h.0, h.1, h.2, h.3, h.4, e ∙ h.5)
          ]);
      complete = λ k u within was. by_eq k j
          (λ same. absurd (waiting u (ap w.issued (sym same) ∙ was)))
          (λ apart. other_unmet k apart ∙ waits.complete k u within was);
      times = waits.times;
      waits = λ k within none all late_k. by_eq k j
          (λ same. let at_k : earliest' k ≡ t = ap earliest' same ∙ at_earliest in
          let at_end : p ≡ 0 = sym at_unmet ∙ ap unmet' (sym same) ∙ all in
          subst (λ a. bucket' (a % 32) k ≡ true) (sym at_k)
          (subst (λ a. bucket' (t % 32) a ≡ true) (sym same) (enters.comes at_end)))
          (λ apart. let is_e : earliest' k ≡ w.earliest k = other_earliest k apart in
          subst (λ a. bucket' (a % 32) k ≡ true) (sym is_e)
          (enters.others (w.earliest k % 32) k (omega arith) within (λ _ same. apart same)
          ∙ waits.waits k within none (sym (other_unmet k apart) ∙ all) (subst (λ a. f ≤ a) is_e late_k)));
      only = λ b k small within held. by_eq k j
          (grind (arith, entered))
          (λ apart.
          let h = waits.only b k small within (sym (enters.others b k small within (λ _ same. apart same)) ∙ held) in (
            h.0,
            other_unmet k apart ∙ h.1,
            subst (λ a. f ≤ a) (sym (other_earliest k apart)) h.2,
            ap (λ a. a % 32) (other_earliest k apart) ∙ h.3,
          ));
    }
  where
    j_below : graph.to x < graph.ops
    j_below = (is.to_there x there).0

    -- it was in no bucket
    old_none : (b : ℕ) → b < 32 → w.bucket b (graph.to x) ≡ true → ⊥
    old_none b small held =
        let none : w.unmet (graph.to x) ≡ 0 = (waits.only b (graph.to x) small j_below held).1 in absurd (omega arith)

    entered : (b : ℕ) → b < 32 → bucket' b (graph.to x) ≡ true → (b ≡ t % 32) × (p ≡ 0)
    entered b small held = by_eq b (t % 32)
        (λ same. (
          same,
          elim (enters.was (subst (λ a. bucket' a (graph.to x) ≡ true) same held)) [
            | inl old ↦ absurd (old_none (t % 32) (omega arith) old)
            | inr end ↦ end
          ],
        ))
        (λ apart. absurd (old_none b small (sym (enters.others b (graph.to x) small j_below (λ same _. apart same)) ∙ held)))
