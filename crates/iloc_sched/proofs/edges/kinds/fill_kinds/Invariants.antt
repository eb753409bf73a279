use Rattle.iloc_sched.proofs.Common.{◌≡◌, map, take, kind}
use Rattle.iloc_sched.proofs.edges.kinds.fill_kinds.Given as goal

abbrev pub invariant-loop-op : goal.invariant-loop-op
invariant-loop-op l = l.kinds.items ≡ map kind (take l.op-index l.ops)
