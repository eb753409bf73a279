use Rattle.iloc_lint.proofs.Common.{length, ap, arith, lines_left}
use Rattle.iloc_lint.proofs.Linting.{lines_fit, fit_first}
use Rattle.iloc_lint.proofs.hints.hints_on.Goals as goal

pub loop-rest-init : goal.loop-rest-init
loop-rest-init c = lines_fit c.args.input.now c.if-input-gt-MAX_INPUT.false

pub read-requires-clause-single : goal.read-requires-clause-single
read-requires-clause-single c = (fit_first _ _ c.in-Some.is c.split_line.ensures c.loop-rest.invariant).0.0

pub read-requires-clause-short : goal.read-requires-clause-short
read-requires-clause-short c = (fit_first _ _ c.in-Some.is c.split_line.ensures c.loop-rest.invariant).0.1

pub loop-rest-preserved : goal.loop-rest-preserved
loop-rest-preserved c = (fit_first _ _ c.in-Some.is c.split_line.ensures c.loop-rest.invariant).1

pub loop-rest-smaller : goal.loop-rest-smaller
loop-rest-smaller c =
    omega (arith, ap length c.split_line.ensures, ap (λ rest. length (lines_left rest)) c.in-Some.is)
