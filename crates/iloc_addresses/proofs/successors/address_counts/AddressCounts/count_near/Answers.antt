use Rattle.iloc_addresses.proofs.Common.{◌+◌, ◌-◌, FitsSigned, ap, ◌∙◌, w32, rules, to_z-of_z, base_of, with_base, with_both}
use Rattle.iloc_addresses.proofs.successors.address_counts.AddressCounts.count_near.Goals as goal

pub returns-clause-near : goal.returns-clause-near
returns-clause-near c =
    let counts = c.args.self.now in
    let fits : FitsSigned w32 c.constant_of.result = search rules in
    let base = c.base_of-base.ensures in
    ap (λ n. counts.all - n + c.with_both.result) (c.with_base.ensures ∙ ap (with_base counts) base)
    ∙ ap (λ n. counts.all - with_base counts (base_of c.args.address) + n)
    ((rw (to_z-of_z w32 c.constant_of.result fits) at c.with_both.ensures) ∙ ap (λ b. with_both counts b c.constant_of.result) base
    ∙ ap (with_both counts (base_of c.args.address)) c.constant_of.ensures.constant)
