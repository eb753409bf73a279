use Rattle.std.proofs.Common.{Err, sym, subst}
use Rattle.iloc_lint.specs.Steps.Alone.{Says}
use Rattle.iloc_lint.proofs.OneLine.{line_says, unread_says}
use Rattle.iloc_lint.proofs.alone.read_alone.Goals as goal

pub returns-in-Ok : goal.returns-in-Ok
returns-in-Ok c = line_says c.args.line.now c.in-Ok.ensures.ok.0 c.read_blocks.new.taker c.requires.single
    c.in-Ok.ensures.ok.1 c.in-Ok.ensures.ok.2

pub returns-in-Err : goal.returns-in-Err
returns-in-Err c = subst (λ u. Says c.args.line.now (Err u)) (sym c.why_unread.ensures)
    (unread_says c.args.line.now c.in-Err.fault c.requires.single c.requires.short c.in-Err.ensures.err)
