use Rattle.iloc_terms.proofs.Common.{FitsSigned, sym, w32, rules, to_z-of_z}
use Rattle.iloc_terms.proofs.Addresses.{good_between_parts}
use Rattle.iloc_terms.proofs.Terms.Epochs.{same_base}
use Rattle.iloc_terms.proofs.agreement.is_within.Goals as goal

pub returns : goal.returns
returns c =
    let low : FitsSigned w32 c.parts-low.result.constant = search rules in
    let middle : FitsSigned w32 c.parts-at.result.constant = search rules in
    let high : FitsSigned w32 c.parts-high.result.constant = search rules in
    λ yes memory d meaning.
    good_between_parts d c.args.span.low c.args.span.high c.args.address c.parts-at.result.base c.parts-low.result.base
    c.parts-high.result.base c.parts-low.result.constant c.parts-at.result.constant c.parts-high.result.constant
    (c.parts-low.ensures memory d meaning) (c.parts-high.ensures memory d meaning) (c.parts-at.ensures memory d meaning)
    (same_base _ _ (sym c.if-ne.ensures)) (same_base _ _ (sym c.if-ne-2.ensures))
    (rw (
      to_z-of_z w32 c.parts-low.result.constant low,
      to_z-of_z w32 c.parts-at.result.constant middle,
      to_z-of_z w32 c.parts-high.result.constant high,
    ) at (c.is_between.ensures yes))
