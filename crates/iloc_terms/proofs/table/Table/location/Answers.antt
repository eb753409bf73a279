use Rattle.iloc_terms.proofs.Common.{FitsSigned, ap, ◌∙◌, w32, rules, to_z-of_z, cast_unsigned}
use Rattle.iloc_terms.proofs.Terms.Epochs.{location_of_parts}
use Rattle.iloc_terms.proofs.table.Table.location.Goals as goal

pub returns : goal.returns
returns c =
    let fits : FitsSigned w32 c.parts-parts.result.constant = search rules in
    λ memory d meaning. location_of_parts d c.args.address _ c.parts-parts.result.base c.parts-parts.result.constant fits
    (c.cast_unsigned.ensures ∙ ap (cast_unsigned w32) (to_z-of_z w32 c.parts-parts.result.constant fits))
    (c.parts-parts.ensures memory d meaning)
