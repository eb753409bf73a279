use Rattle.iloc_addresses.proofs.Common.{◌≡◌, Some, ap, ◌∙◌, rules, defined}
use Rattle.iloc_addresses.specs.declared.successors.definers.Definers.{Definers}
use Rattle.iloc_addresses.proofs.SuccessorsCounted.{definers_more}
use Rattle.iloc_addresses.proofs.successors.definers.Definers.take.Goals as goal

pub returns-in_ok-insert : goal.returns-in_ok-insert
returns-in_ok-insert c ops renamed here before =
    let defines : defined c.args.op.now ≡ Some c.in-Some.register = search rules in
    let new : Definers = record { ops = c.insert.new.self } in
    definers_more ops c.args.j c.args.self.now before new c.in-Some.register renamed (ap defined here ∙ defines)
    c.in_ok-insert.ensures.updates.0
