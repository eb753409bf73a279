use Rattle.iloc_lint.proofs.Common.{length, AllByRecursion, lines_left}
use Rattle.iloc_lint.proofs.Linting.{IsFit}
use Rattle.iloc_lint.proofs.hints.hints_on.Given as goal

abbrev pub invariant-loop-rest : goal.invariant-loop-rest
invariant-loop-rest l = AllByRecursion IsFit (lines_left l.rest)

abbrev pub decreases-loop-rest : goal.decreases-loop-rest
decreases-loop-rest l = length (lines_left l.rest)
