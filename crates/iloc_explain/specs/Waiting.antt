-- When the operations of a schedule are ready, and what they waited for.
use Rattle.std.specs.Prelude.{ℕ, ◌+◌, ◌≡◌, ◌≤◌, ◌⊎◌, ◌==◌, ◌&&◌, nat_lt, Bool, List, ◌++◌, filter, option_to_list}
use Rattle.std.specs.List.{flat_map, list_any}
use Rattle.iloc_ops.specs.declared.op.Op.{Op}
use Rattle.iloc_meaning.specs.Trace.{op_at}
use Rattle.iloc_timed.specs.declared.latencies.Latencies.{Latencies}
use Rattle.iloc_timed.specs.declared.row.Row.{Row}
use Rattle.iloc_timed.specs.Rows.{issue_cycle}
use Rattle.iloc_rules.specs.declared.memory_rule.MemoryRule.{MemoryRule}
use Rattle.iloc_rules.specs.Delays.{delays_where, IsDelayPairWhere}
use Rattle.iloc_rules.specs.Rule.{counts_by}

-- by this rule of memory operation j waits for operation i, and a delay of that ends at cycle c
pub record WaitsUntil (rule : MemoryRule) (lat : Latencies) (ops : List Op) (rows : List Row) (i j c : ℕ) : Type 0 where
  pub delay : ℕ
  pub pair : IsDelayPairWhere (counts_by rule ops) lat ops i j delay
  pub ends : issue_cycle rows i + delay ≡ c

-- all delays by this rule are waited for
abbrev pub WaitsForAll : MemoryRule → Latencies → List Op → List Row → Type 0
WaitsForAll rule lat ops rows = (i j d : ℕ) → IsDelayPairWhere (counts_by rule ops) lat ops i j d
    → issue_cycle rows i + d ≤ issue_cycle rows j

-- Operation j is ready at cycle c and not before: all its delays are over then, and one of them ends just then, unless c
-- is 0.
pub record IsReadyAt (rule : MemoryRule) (lat : Latencies) (ops : List Op) (rows : List Row) (j c : ℕ) : Type 0 where
  pub over : (i d : ℕ) → IsDelayPairWhere (counts_by rule ops) lat ops i j d → issue_cycle rows i + d ≤ c
  pub earliest : (c ≡ 0) ⊎ ((i : ℕ) × WaitsUntil rule lat ops rows i j c)

-- the operations in the order of their issue, unit 0 before unit 1
abbrev pub issue_order : List Row → List ℕ
issue_order rows = flat_map (λ (row : Row). option_to_list row.zero ++ option_to_list row.one) rows

-- whether a delay of operation j for operation i ends at cycle c
abbrev pub ends_at : MemoryRule → Latencies → List Op → List Row → ℕ → ℕ → ℕ → Bool
ends_at rule lat ops rows j c i =
    nat_lt i j && list_any (λ d. issue_cycle rows i + d == c) (delays_where (counts_by rule ops i j) lat (op_at ops i) (op_at ops j))

-- the operations for which operation j waited until cycle c, in the order of their issue
abbrev pub waited_until : MemoryRule → Latencies → List Op → List Row → ℕ → ℕ → List ℕ
waited_until rule lat ops rows j c = filter (ends_at rule lat ops rows j c) (issue_order rows)
