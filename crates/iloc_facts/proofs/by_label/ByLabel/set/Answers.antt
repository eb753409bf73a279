use Rattle.iloc_facts.proofs.Common.{Some, None, sym, subst, SetsLike}
use Rattle.iloc_facts.proofs.AlikeOps.{sets_like}
use Rattle.iloc_facts.proofs.by_label.ByLabel.set.Goals as goal

pub returns-in_ok-insert-in-Some : goal.returns-in_ok-insert-in-Some
returns-in_ok-insert-in-Some c =
    subst (SetsLike c.args.self.now (record { numbers = c.insert.new.self }) c.args.op.now) (sym c.in-Some.is)
    (sets_like c.args.self.now (record { numbers = c.insert.new.self }) c.args.op.now c.label_key-key.result (Some c.in-Some.k)
    c.label_key-key.ensures c.in_ok-insert-in-Some.ensures.updates.0)

pub returns-in-None : goal.returns-in-None
returns-in-None c =
    subst (SetsLike c.args.self.now (record { numbers = c.remove.new.self }) c.args.op.now) (sym c.in-None.is)
    (sets_like c.args.self.now (record { numbers = c.remove.new.self }) c.args.op.now c.label_key-key.result None
    c.label_key-key.ensures c.remove.ensures.updates.0)
