use Rattle.iloc_sched.proofs.Common.{◌≡◌, ◌*◌, ◌≤◌, length, take, without_nops}
use Rattle.iloc_sched.specs.Steps.Edges.Filling.{CanHold, IsGathered}
use Rattle.iloc_sched.proofs.tables.Tables.gather.Given as goal

abbrev pub invariant-loop-op : goal.invariant-loop-op
invariant-loop-op l = record {
  given : l.names.given ≤ 3 * l.op-index;
  gathered : IsGathered (without_nops (take l.op-index l.ops)) l.self l.lasts l.names;
  few : length l.self.ops.items ≤ l.op-index;
  latencies : l.self.latencies ≡ l.fn.self.latencies;
  capacity : CanHold l.self (length l.ops);
}
