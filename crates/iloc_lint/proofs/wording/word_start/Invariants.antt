use Rattle.std.proofs.Common.{◌≤◌}
use Rattle.iloc_lint.proofs.wording.word_start.Given as goal

abbrev pub invariant-loop-start : goal.invariant-loop-start
invariant-loop-start l = l.start ≤ l.fn.at

abbrev pub decreases-loop-start : goal.decreases-loop-start
decreases-loop-start l = l.start
