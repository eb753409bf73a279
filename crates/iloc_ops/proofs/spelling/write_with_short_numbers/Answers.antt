use Rattle.std.proofs.Common.{◌∙◌, arith}
use Rattle.iloc_ops.proofs.ShortOperands.{kept}
use Rattle.iloc_ops.proofs.spelling.write_with_short_numbers.Goals as goal

pub returns-in_err-end-2-clause-kept : goal.returns-in_err-end-2-clause-kept
returns-in_err-end-2-clause-kept c =
    let third = c.in_ok-end.ensures in
    rw (c.from_residual-in_err-end-2.ensures, c.in_err-end-2.ensures.kept)
    (kept c.write_short_operand.new.line c.args.line.now _ c.in_ok-end.end c.args.end third.space.0 c.requires.1 third.length third.written)

pub returns-in_err-end-3-clause-kept : goal.returns-in_err-end-3-clause-kept
returns-in_err-end-3-clause-kept c =
    let third = c.in_ok-end.ensures in
    let second = c.in_ok-end-2.ensures in
    let at_third = kept c.write_short_operand-2.new.line c.write_short_operand.new.line _ c.in_ok-end-2.end c.in_ok-end.end
    second.space.0 (omega (arith, third.length)) second.length second.written in
    rw (c.from_residual-in_err-end-3.ensures, c.in_err-end-3.ensures.kept)
    (kept c.write_short_operand-2.new.line c.args.line.now _ c.in_ok-end.end c.args.end third.space.0 c.requires.1
    (second.length ∙ third.length) (at_third ∙ third.written))
