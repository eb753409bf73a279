use Rattle.iloc_addresses.proofs.Common.{FitsSigned, unwrap_or, ap, ◌∙◌, w32, rules, to_z-of_z}
use Rattle.iloc_addresses.proofs.successors.address_counts.AddressCounts.with_both.Goals as goal

pub returns : goal.returns
returns c =
    let fits : FitsSigned w32 c.args.constant = search rules in
    c.unwrap_or.ensures
    ∙ ap (λ o. unwrap_or o 0) (c.copied.ensures ∙ (rw (to_z-of_z w32 c.args.constant fits) at c.get.ensures.value))
