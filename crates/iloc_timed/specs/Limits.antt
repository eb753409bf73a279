-- How long latencies and schedules may be.
use Rattle.std.specs.Prelude.{ℕ}

-- a latency is at most 16 cycles
abbrev pub LONGEST_LATENCY : ℕ
LONGEST_LATENCY = 16

-- a schedule has at most 4,000,000,000 rows
abbrev pub MAX_ROWS : ℕ
MAX_ROWS = 4000000000
