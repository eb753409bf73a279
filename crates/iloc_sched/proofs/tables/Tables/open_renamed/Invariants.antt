use Rattle.iloc_sched.proofs.Common.{◌≡◌, length, take}
use Rattle.iloc_sched.specs.Steps.Edges.Filling.{CanHold, IsFilling}
use Rattle.iloc_sched.proofs.tables.Tables.open_renamed.Given as goal

abbrev pub invariant-loop-op : goal.invariant-loop-op
invariant-loop-op l = record {
  filling : IsFilling l.self l.lasts;
  ops : l.self.ops.items ≡ take l.op-index l.ops;
  size : length l.self.ops.items ≡ l.op-index;
  latencies : l.self.latencies ≡ l.latencies;
  capacity : CanHold l.self (length l.ops);
}
