-- What holds of pairs of operations.
use Rattle.std.specs.Prelude.{ℕ, ◌+◌, ◌≤◌, List}
use Rattle.iloc_ops.specs.declared.op.Op.{Op}
use Rattle.iloc_timed.specs.declared.latencies.Latencies.{Latencies}
use Rattle.iloc_rules.specs.Delays.{Counts, IsDelayPairWhere}
use Rattle.iloc_addresses.specs.Near.{IsNear}

-- whichever count, cycles of issue that wait for the near pairs wait for all
abbrev pub NearPairsImplyAll : Type 0
NearPairsImplyAll = (counts : Counts) (lat : Latencies) (ops : List Op) (cycle : ℕ → ℕ)
    → ((i j d : ℕ) → IsDelayPairWhere counts lat ops i j d → IsNear counts lat ops i j d → cycle i + d ≤ cycle j)
    → (i j d : ℕ) → IsDelayPairWhere counts lat ops i j d → cycle i + d ≤ cycle j
