use Rattle.iloc_addresses.proofs.Common.{FitsSigned, sym, ap, ◌∙◌, subst, inl, inr, w32, rules, to_z-of_z, IsShort, constant_of, last_at}
use Rattle.iloc_addresses.specs.Steps.LastByConstant.{Notes}
use Rattle.iloc_addresses.proofs.LastByConstants.{stored}
use Rattle.iloc_addresses.proofs.dependences.stores.Stores.note.Goals as goal
use Rattle.iloc_addresses.proofs.dependences.stores.Stores.note.Goals.{then-not-have_one_base, else-not-have_one_base}

pub returns-clause-stores : goal.returns-clause-stores
returns-clause-stores c w short =
    let fits : FitsSigned w32 c.constant_of-constant.result = search rules in
    let mid = c.if-not-have_one_base.self in
    let same = to_z-of_z w32 c.constant_of-constant.result fits ∙ c.constant_of-constant.ensures.constant in
    stored c.args.self.now mid.own c.set.new.self mid.other c.args.address w c.args.j
    (subst (λ q. Notes mid.own c.set.new.self q c.args.j) same c.in_ok-set.ensures)
    (subst IsShort c.constant_of-constant.ensures.constant c.constant_of-constant.ensures.short) short
    (elim c.if-not-have_one_base.branch [
      | then-not-have_one_base v ↦ inr (
        sym c.have_one_base.ensures ∙ v.if-not-have_one_base.true,
        λ q. ap (λ s. last_at s.own q) v.self-is ∙ v.clear.ensures q,
        ap (λ s. s.other) v.self-is,
      )
      | else-not-have_one_base v ↦ inl (
        sym c.have_one_base.ensures ∙ v.if-not-have_one_base.false,
        ap (λ s. s.own) v.self-is,
        ap (λ s. s.other) v.self-is,
      )
    ])
