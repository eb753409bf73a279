use Rattle.iloc_trace.proofs.Common.{nat_lt, filter, sym, ap, ◌∙◌, subst, rules, All-filter, All}
use Rattle.std.proofs.lemmas.Fn.{filter_same}
use Rattle.iloc_trace.specs.declared.under_way.Arrival.{Arrival}
use Rattle.iloc_trace.specs.Steps.Arrivals.{CanArrive}
use Rattle.iloc_trace.proofs.under_way.UnderWay.remove_due.Goals as goal

pub invariant_of-self : goal.invariant_of-self
invariant_of-self c =
    let later = λ (a : Arrival). nat_lt c.args.cycle a.due in
    subst (All CanArrive) (sym (filter_same _ later _ (λ x b f' w. search rules) _ _ c.retain.ensures.filtered))
    (All-filter later CanArrive c.self.inside.arrivals.items c.self.invariant)

pub returns : goal.returns
returns c =
    let later = λ (a : Arrival). nat_lt c.args.cycle a.due in
    filter_same _ later _ (λ x b f' w. search rules) _ _ c.retain.ensures.filtered ∙ ap (filter later) c.self.view_is
