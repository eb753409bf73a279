use Rattle.std.proofs.Common.{arith}
use Rattle.iloc_lint.proofs.Begins.{comes_next}
use Rattle.iloc_lint.proofs.row.found_at.Goals as goal

pub returns : goal.returns
returns c = (
  c.after_blanks-rest.result.now,
  c.after_blanks-rest.ensures.blanks,
  comes_next c.after_blanks-rest.result.now c.shown_at.result c.shown_at.ensures.some
      (omega (arith, c.shown_at.ensures.some, c.shown_at.ensures.within)),
)
