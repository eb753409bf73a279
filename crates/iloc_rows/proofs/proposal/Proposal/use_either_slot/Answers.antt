use Rattle.std.proofs.Common.{length}
use Rattle.iloc_rows.proofs.EitherSlot.{either_once, rows_in_range}
use Rattle.iloc_rows.proofs.proposal.Proposal.use_either_slot.Goals as goal

pub invariant_of-self : goal.invariant_of-self
invariant_of-self c =
    let p = c.self.inside.proposed in
    rw (c.use_either_slot.ensures, c.as_slice.ensures)
    (rows_in_range (length p.ops) p.ops p.rows c.self.invariant.0, either_once p c.self.invariant.1)
