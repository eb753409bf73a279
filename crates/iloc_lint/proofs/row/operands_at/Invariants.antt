use Rattle.iloc_lint.specs.Row.{IsLeft}
use Rattle.iloc_lint.proofs.row.operands_at.Given as goal

abbrev pub invariant-loop-part : goal.invariant-loop-part
invariant-loop-part l = IsLeft l.bytes l.rest
