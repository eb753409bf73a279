use Rattle.iloc_addresses.proofs.Common.{FitsSigned, ◌∙◌, w32, rules, to_z-of_z}
use Rattle.iloc_addresses.proofs.dependences.last_by_constant.LastByConstant.other.Goals as goal

pub returns : goal.returns
returns c =
    let fits : FitsSigned w32 c.args.constant = search rules in
    c.copied.ensures ∙ (rw (to_z-of_z w32 c.args.constant fits) at c.get.ensures.value)
