use Rattle.iloc_lint.proofs.Common.{◌≡◌, ◌+◌, ◌≤◌, List, length, AllByRecursion, Reading, lines_left, lines_of, Refusal}
use Rattle.iloc_lint.specs.Steps.Counted.{Count}
use Rattle.iloc_lint.specs.Refused.{AreKept}
use Rattle.iloc_lint.proofs.Linting.{GoesOn, IsFit}
use Rattle.iloc_lint.proofs.faults.lint.Given as goal

-- the lines so far count as some readings, and of their faults the first are kept
abbrev pub invariant-loop-rest : goal.invariant-loop-rest
invariant-loop-rest l = record {
  counted : l.number + length (lines_left l.rest) ≡ length (lines_of l.fn.input);
  fit : AllByRecursion IsFit (lines_left l.rest);
  few : l.faults.count ≤ l.number;
  stands : (now : List Reading) × Count now l.counts × (length now ≡ l.number) × (found : List Refusal)
      × GoesOn (lines_of l.fn.input) now (lines_left l.rest) found × AreKept found l.faults;
}

abbrev pub decreases-loop-rest : goal.decreases-loop-rest
decreases-loop-rest l = length (lines_left l.rest)
