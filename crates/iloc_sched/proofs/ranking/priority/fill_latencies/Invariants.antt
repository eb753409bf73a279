use Rattle.iloc_sched.proofs.Common.{◌≡◌, map, take, latency_of}
use Rattle.iloc_sched.proofs.ranking.priority.fill_latencies.Given as goal

abbrev pub invariant-loop-kind : goal.invariant-loop-kind
invariant-loop-kind l = l.own.items ≡ map (latency_of l.latencies) (take l.kind-index l.kinds)
