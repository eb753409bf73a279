use Rattle.iloc_reasons.proofs.Common.{sym, ◌∙◌}
use Rattle.iloc_reasons.proofs.Numbering.{first_only, none_only}
use Rattle.iloc_reasons.proofs.origins.left.Left.only.Goals as goal

pub returns-in-Some : goal.returns-in-Some
returns-in-Some c = λ ops noted are i. none_only ops noted c.args.self.now are c.args.op.now _ (sym c.number.ensures ∙ c.in-Some.is) i

pub returns-in-None : goal.returns-in-None
returns-in-None c = λ ops noted are i. rw c.number-in-None.ensures
    (first_only ops noted c.args.self.now are c.args.op.now (sym c.number.ensures ∙ c.in-None.is) i)
