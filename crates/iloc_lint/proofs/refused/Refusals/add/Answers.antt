use Rattle.iloc_lint.proofs.Common.{◌≡◌, ◌+◌, ◌<◌, ◌≤◌, List, [], ◌∷◌, ◌++◌, sym, ap, ◌∙◌, subst, arith, length-append, map-append, take-append-le, take_all, Refusal}
use Rattle.iloc_lint.specs.Refused.{AreKept, refusal_of, refusals_of}
use Rattle.iloc_lint.specs.Steps.Noted.{refusals}
use Rattle.iloc_lint.specs.declared.refused.Refusals.{Refusals}
use Rattle.iloc_lint.specs.declared.refused.Refused.{Refused}
use Rattle.iloc_lint.proofs.refused.Refusals.add.Goals as goal
use Rattle.iloc_lint.proofs.refused.Refusals.add.Goals.{then-self-lt-MOST_LISTED+in_ok-push, else-self-lt-MOST_LISTED}

-- The refusals that are kept, and one more.

-- there is room for one more
one_kept : (before : List Refusal) (old new : Refusals) (r : Refused) → AreKept before old → old.count < 1000
    → new.first.items ≡ old.first.items ++ r ∷ [] → new.count ≡ old.count + 1
    → AreKept (before ++ refusal_of r ∷ []) new
one_kept before old new r kept few pushed counted =
    let size = length-append before (refusal_of r ∷ []) in
    record {
      first = ap refusals_of pushed ∙ map-append refusal_of old.first.items (r ∷ [])
          ∙ ap (λ rs. rs ++ refusal_of r ∷ []) (kept.first ∙ take_all 1000 before (omega (arith, few, kept.count)))
          ∙ sym (take_all 1000 (before ++ refusal_of r ∷ []) (omega (arith, few, kept.count, size)));
      count = omega (arith, counted, kept.count, size);
    }

-- there is none, and it counts alone
one_counted : (before : List Refusal) (old new : Refusals) (r : Refusal) → AreKept before old → 1000 ≤ old.count
    → new.first.items ≡ old.first.items → new.count ≡ old.count + 1 → AreKept (before ++ r ∷ []) new
one_counted before old new r kept many same counted = record {
  first = ap refusals_of same ∙ kept.first ∙ sym (take-append-le 1000 before (r ∷ []) (omega (arith, many, kept.count)));
  count = omega (arith, counted, kept.count, length-append before (r ∷ []));
}

pub returns-clause-kept : goal.returns-clause-kept
returns-clause-kept c before kept =
    let new : Refusals = record {
      first = c.if-self-lt-MOST_LISTED.self.first;
      count = c.if-self-lt-MOST_LISTED.self.count + 1;
    } in
    subst (λ rs. AreKept (before ++ rs) new) (sym (ap (refusals c.args.line.now) c.in-Some.is))
    (elim c.if-self-lt-MOST_LISTED.branch [
      | then-self-lt-MOST_LISTED+in_ok-push w ↦
          one_kept before c.args.self.now new _ kept w.if-self-lt-MOST_LISTED.true
          (ap (λ s. s.first.items) w.self-is ∙ w.in_ok-push.ensures.items) (ap (λ s. s.count + 1) w.self-is)
      | else-self-lt-MOST_LISTED w ↦
          one_counted before c.args.self.now new _ kept w.if-self-lt-MOST_LISTED.false
          (ap (λ s. s.first.items) w.self-is) (ap (λ s. s.count + 1) w.self-is)
    ])
