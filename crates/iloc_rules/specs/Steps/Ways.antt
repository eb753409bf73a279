-- Delay pairs that go by way of an operation between.
use Rattle.std.specs.Prelude.{ℕ, ◌+◌, ◌≤◌, List}
use Rattle.iloc_ops.specs.declared.op.Op.{Op}
use Rattle.iloc_timed.specs.declared.latencies.Latencies.{Latencies}
use Rattle.iloc_rules.specs.Delays.{Counts, IsDelayPairWhere}

-- by `counts`, two delay pairs by way of an operation between `i` and `j` are together at least as long as `d`
pub record GoesBy (counts : Counts) (lat : Latencies) (ops : List Op) (i j d : ℕ) : Type 0 where
  pub way : ℕ
  pub first_delay : ℕ
  pub second_delay : ℕ
  pub first : IsDelayPairWhere counts lat ops i way first_delay
  pub second : IsDelayPairWhere counts lat ops way j second_delay
  pub enough : d ≤ first_delay + second_delay
