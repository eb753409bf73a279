use Rattle.std.proofs.Common.{refl}
use Rattle.iloc_explain.proofs.ReadyKept.{kept_issued}
use Rattle.iloc_explain.proofs.ready_list.ReadyList.issue.Goals as goal

pub returns : goal.returns
returns c = λ cycle is issued.
    kept_issued c.args.explained.now cycle c.args.row c.args.self.now _ c.drop_slot.new.ready.keys is issued c.drop_slot.ensures.order
    c.drop_slot-2.ensures.order c.drop_slot.ensures.keys c.drop_slot-2.ensures.keys refl
