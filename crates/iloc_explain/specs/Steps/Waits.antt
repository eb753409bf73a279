-- Waits by their delays.
use Rattle.std.specs.Prelude.{ℕ, ◌==◌, ◌&&◌, nat_lt, Bool, List}
use Rattle.std.specs.List.{list_any}
use Rattle.iloc_ops.specs.declared.op.Op.{Op}
use Rattle.iloc_meaning.specs.Trace.{op_at}
use Rattle.iloc_timed.specs.declared.latencies.Latencies.{Latencies}
use Rattle.iloc_rules.specs.declared.memory_rule.MemoryRule.{MemoryRule}
use Rattle.iloc_rules.specs.Delays.{delays_where}
use Rattle.iloc_rules.specs.Rule.{counts_by}

-- whether operation `j` waits for operation `i` for `delay` cycles
abbrev pub waits_for : MemoryRule → Latencies → List Op → ℕ → ℕ → ℕ → Bool
waits_for rule lat ops j delay i =
    nat_lt i j && list_any (λ d. d == delay) (delays_where (counts_by rule ops i j) lat (op_at ops i) (op_at ops j))
