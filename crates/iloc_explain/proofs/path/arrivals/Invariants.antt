use Rattle.iloc_explain.proofs.Common.{◌≡◌, ◌+◌, map, range_with_len, op_at, latency, issue_cycle}
use Rattle.iloc_explain.proofs.path.arrivals.Given as goal

abbrev pub invariant-loop-i : goal.invariant-loop-i
invariant-loop-i l =
    l.found.items ≡ map (λ i. issue_cycle l.schedule.rows i + latency l.latencies (op_at l.schedule.ops i)) (range_with_len 0 l.i)
