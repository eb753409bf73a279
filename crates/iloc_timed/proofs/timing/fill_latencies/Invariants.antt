use Rattle.std.proofs.Common.{◌≡◌, map, take}
use Rattle.iloc_timed.specs.Latency.{latency}
use Rattle.iloc_timed.proofs.timing.fill_latencies.Given as goal

abbrev pub invariant-loop-op : goal.invariant-loop-op
invariant-loop-op l = l.own.items ≡ map (latency l.latencies) (take l.op-index l.ops)
