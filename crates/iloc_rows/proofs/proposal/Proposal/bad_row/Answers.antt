use Rattle.iloc_rows.proofs.EitherSlot.{bad_row_of}
use Rattle.iloc_rows.proofs.proposal.Proposal.bad_row.Goals as goal

pub returns : goal.returns
returns c =
    bad_row_of c.args.self.now c.first_that_breaks.result (c.rows.ensures.in_range, c.rows.ensures.once)
    (rw (c.ops.ensures, c.rows.ensures.rows) at c.first_that_breaks.ensures)
