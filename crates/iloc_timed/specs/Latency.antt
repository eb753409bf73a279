-- How many cycles an operation takes: its result arrives that many cycles after it is issued.
use Rattle.std.specs.Prelude.{ℕ, ◌≤◌}
use Rattle.iloc_ops.specs.declared.op.Op.{Op}
use Rattle.iloc_timed.specs.declared.kind.Kind.{Kind}
use Rattle.iloc_timed.specs.declared.kind.Kind.TheVariants as K
use Rattle.iloc_timed.specs.declared.latencies.Latencies.{Latencies}
use Rattle.iloc_timed.specs.Limits.{LONGEST_LATENCY}
use Rattle.iloc_timed.specs.Kinds.{kind}

-- what a latency may be
abbrev pub IsLatency : ℕ → Type 0
IsLatency n = (1 ≤ n) × (n ≤ LONGEST_LATENCY)

abbrev pub latency_of : Latencies → Kind → ℕ
latency_of lat K.Load = lat.load
latency_of lat K.Store = lat.store
latency_of lat K.Mult = lat.mult
latency_of lat _ = 1

abbrev pub latency : Latencies → Op → ℕ
latency lat op = latency_of lat (kind op)
