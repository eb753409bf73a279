use Rattle.std.proofs.Common.{sym}
use Rattle.iloc_validation.proofs.SlotNumbers.{schedule_by_slot}
use Rattle.iloc_validation.proofs.decision.ours.paired_by_slot.Goals as goal

pub returns : goal.returns
returns c = λ lat block lawful same.
    schedule_by_slot lat block c.args.ours.now.ops c.args.theirs.now.ops c.args.ours.now.rows c.args.theirs.now.rows _
    lawful c.in_ok-numbers_in.ensures.table same c.in_ok-numbers_in-2.ensures.size
    (c.in_ok-numbers_in.ensures.each same) (c.in_ok-numbers_in-2.ensures.each (sym same))
