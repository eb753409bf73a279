use Rattle.iloc_facts.proofs.Common.{◌≡◌, ap, ◌∙◌, rules, get}
use Rattle.iloc_ops.specs.contracts.op.OpOrd.TheImpl as in_order
use Rattle.iloc_facts.proofs.by_label.ByLabel.number.Goals as goal

pub returns : goal.returns
returns c =
    let found : c.copied.result ≡ get (in_order.ghosts).cmp c.args.self.now.numbers c.label_key.result = search rules in
    found ∙ ap (get (in_order.ghosts).cmp c.args.self.now.numbers) c.label_key.ensures
