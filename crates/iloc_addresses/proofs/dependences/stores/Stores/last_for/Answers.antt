use Rattle.iloc_addresses.proofs.Common.{◌≡◌, true, FitsSigned, sym, ap, ◌∙◌, w32, rules, to_z-of_z, option_or, constant_of, have_one_base, last_at}
use Rattle.iloc_addresses.proofs.dependences.stores.Stores.last_for.Goals as goal

pub returns-then-have_one_base-clause-last : goal.returns-then-have_one_base-clause-last
returns-then-have_one_base-clause-last c =
    let fits : FitsSigned w32 c.constant_of-constant.result = search rules in
    let got : c.get.result ≡ last_at c.args.self.now.own (constant_of c.args.address) =
    (rw (to_z-of_z w32 c.constant_of-constant.result fits) at c.get.ensures)
    ∙ ap (last_at c.args.self.now.own) c.constant_of-constant.ensures.constant in
    let one : have_one_base c.args.self.now.base c.args.address ≡ true =
    sym c.have_one_base.ensures ∙ c.if-have_one_base.true in
    c.or.ensures ∙ ap (λ o. option_or o c.args.self.now.other) got ∙ rw one
