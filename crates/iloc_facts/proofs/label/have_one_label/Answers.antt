use Rattle.iloc_facts.proofs.AlikeOps.{keys_test}
use Rattle.iloc_facts.proofs.label.have_one_label.Goals as goal

pub returns : goal.returns
returns c = rw (c.eq.ensures, c.label_key.ensures, c.label_key-2.ensures) (keys_test c.args.one.now c.args.other.now)
