use Rattle.iloc_facts.specs.ByLabel.{NumbersLabels}
use Rattle.iloc_facts.proofs.by_label.ByLabel.of.Given as goal

abbrev pub invariant-loop-i : goal.invariant-loop-i
invariant-loop-i l = NumbersLabels l.ops l.i l.numbers
