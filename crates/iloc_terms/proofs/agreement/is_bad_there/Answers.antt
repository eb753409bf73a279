use Rattle.iloc_terms.proofs.Common.{ℕ, ◌+◌, ◌<◌, not, List, length, get_or, take, sym, ◌∙◌, inl, inr, or_cases, list_any_more, is_good, Node}
use Rattle.iloc_terms.specs.Steps.Agreement.{IsBadWith, BadThere}
use Rattle.iloc_terms.proofs.agreement.is_bad_there.Goals as goal

-- one more address
settled_more : (nodes : List Node) (these those : List ℕ) (i other : ℕ) → i < length these
    → IsBadWith nodes those (get_or these i other) → BadThere nodes (take i these) those
    → BadThere nodes (take (i + 1) these) those
settled_more nodes these those i other within settled there = λ memory d meaning bad.
    elim (or_cases _ _ (sym (list_any_more (λ k. not (is_good (d.word k))) these i other within) ∙ bad)) [
      | inl earlier ↦ there memory d meaning earlier
      | inr here ↦ settled memory d meaning here
    ]

pub loop-address-preserved : goal.loop-address-preserved
loop-address-preserved c =
    settled_more _ c.args.these.now c.args.those.now c.loop-address.address-index _ c.loop-address-test.true
    (c.is_settled.ensures c.if-not-is_settled.false c.args.those.now (rw c.deref.ensures.value c.in_ok-marks.ensures))
    c.loop-address.invariant
