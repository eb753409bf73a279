use Rattle.iloc_optimum.proofs.Common.{◌≡◌, ℕ, ◌+◌, ◌-◌, ◌*◌, ◌<◌, ◌≤◌, true, ◌≢◌, ◌⊎◌, List, length, get_or, set, sym, ◌∙◌, subst₂, inl, inr, arith, length-set, get_or-set_other, Kind, width, Share, IsKept, count_inside, Within, belongs}
use Rattle.iloc_optimum.proofs.NarrowerWindows.{raised, lowered}
use Rattle.iloc_optimum.proofs.FullCycles.{left_over}
use Rattle.iloc_optimum.proofs.crowds.keep_out.Goals as goal
use Rattle.iloc_optimum.proofs.crowds.keep_out.Goals.{then-belongs, else-belongs}

-- The windows while the full cycles are taken from them.
kept_other : (kinds : List Kind) (F L F' L' : List ℕ) (i : ℕ) → IsKept kinds F L F' L' i → IsKept kinds F L F' L' (i + 1)
kept_other kinds F L F' L' i kept = grind arith

kept_more : (kinds : List Kind) (F L F' L' : List ℕ) (s : Share) (a e i v w : ℕ) → length F ≡ length kinds → length L ≡ length kinds
    → width s * (e + 1 - a) ≤ count_inside kinds F L s a e (length kinds) → i < length kinds → belongs kinds s i ≡ true
    → ((t : ℕ) → get_or F' i 0 ≤ t → t ≤ get_or L' i 0
    → ((a ≤ get_or F' i 0) × (get_or L' i 0 ≤ e)) ⊎ (t < a) ⊎ (e < t) → (v ≤ t) × (t ≤ w))
    → IsKept kinds F L F' L' i → IsKept kinds F L (set F' i v) (set L' i w) (i + 1)
kept_more kinds F L F' L' s a e i v w firsts lasts full below shares narrowed kept = record {
  same_firsts = length-set F' i v ∙ kept.same_firsts;
  same_lasts = length-set L' i w ∙ kept.same_lasts;
  later_firsts = λ k above. let ne : k ≢ i = omega arith in rw get_or-set_other (kept.later_firsts k (omega arith));
  later_lasts = λ k above. let ne : k ≢ i = omega arith in rw get_or-set_other (kept.later_lasts k (omega arith));
  within = λ t crowds before.
      let now : Within F' L' t = kept.within t crowds before in
      let same_first : get_or F' i 0 ≡ get_or F i 0 = kept.later_firsts i (omega arith) in
      let same_last : get_or L' i 0 ≡ get_or L i 0 = kept.later_lasts i (omega arith) in
      let size_firsts : length F' ≡ length F = kept.same_firsts in
      let size_lasts : length L' ≡ length L = kept.same_lasts in
      let way : ((a ≤ get_or F i 0) × (get_or L i 0 ≤ e)) ⊎ (t i < a) ⊎ (e < t i) =
      left_over kinds F L s a e t firsts lasts (crowds s) before full i below shares in
      let there : ((a ≤ get_or F' i 0) × (get_or L' i 0 ≤ e)) ⊎ (t i < a) ⊎ (e < t i) = elim way [
        | inl ends ↦ (let low : a ≤ get_or F i 0 = ends.0 in let high : get_or L i 0 ≤ e = ends.1 in inl (omega arith, omega arith))
        | inr out ↦ inr out
      ] in
      let ends = narrowed (t i) (now.from i (omega arith)) (now.to i (omega arith)) there in
      lowered (set F' i v) L' t i w (omega arith) ends.1 (raised F' L' t i v (omega arith) ends.0 now);
}

pub loop-i-preserved : goal.loop-i-preserved
loop-i-preserved c =
    let kinds = c.args.kinds.now in
    let F = c.args.firsts.now in
    let L = c.args.lasts.now in
    elim c.if-belongs.branch [
      | then-belongs w ↦ subst₂ (λ fs ls. IsKept kinds F L fs ls (c.loop-i.i + 1)) (sym w.firsts-is) (sym w.lasts-is)
          (kept_more kinds F L c.loop-i.firsts c.loop-i.lasts c.args.share c.args.from c.args.to c.loop-i.i
          w.narrowed-window.result.0 w.narrowed-window.result.1 c.requires.firsts c.requires.lasts c.requires.full
          c.loop-i-test.true (sym c.belongs.ensures ∙ w.if-belongs.true) w.narrowed-window.ensures c.loop-i.invariant)
      | else-belongs w ↦ subst₂ (λ fs ls. IsKept kinds F L fs ls (c.loop-i.i + 1)) (sym w.firsts-is) (sym w.lasts-is)
          (kept_other kinds F L c.loop-i.firsts c.loop-i.lasts c.loop-i.i c.loop-i.invariant)
    ]
