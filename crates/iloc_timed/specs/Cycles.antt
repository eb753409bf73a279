-- How many cycles a schedule takes, until its last result has arrived.
use Rattle.std.specs.Prelude.{ℕ, ◌+◌, max, List, length, map, fold}
use Rattle.std.specs.List.{range_with_len}
use Rattle.iloc_ops.specs.declared.op.Op.{Op}
use Rattle.iloc_meaning.specs.Trace.{op_at}
use Rattle.iloc_timed.specs.declared.latencies.Latencies.{Latencies}
use Rattle.iloc_timed.specs.declared.row.Row.{Row}
use Rattle.iloc_timed.specs.Latency.{latency}
use Rattle.iloc_timed.specs.Rows.{issue_cycle}

-- the greatest cycle of issue and latency together, 0 where there is no operation
abbrev pub cycles : Latencies → List Op → List Row → ℕ
cycles lat ops rows =
    fold max 0 (map (λ i. issue_cycle rows i + latency lat (op_at ops i)) (range_with_len 0 (length ops)))
