use Rattle.std.proofs.Common.{refl}
use Rattle.iloc_explain.proofs.ReadyOrder.{all_later}
use Rattle.iloc_explain.proofs.ready_list.ReadyList.released.Goals as goal

pub returns-then-ready-cycle-clause-none : goal.returns-then-ready-cycle-clause-none
returns-then-ready-cycle-clause-none c = (
  all_later c.args.cycle c.args.self.now.coming.keys c.in_ok-ready.field-0.now c.len-count.ensures.ordered c.in_ok-ready.ensures.first
      c.if-ready-cycle.true,
  refl,
)
