-- What is said of each operation of a schedule.
use Rattle.std.specs.Prelude.{ℕ, ◌-◌, ◌≡◌, ◌==◌, if◌then◌else◌, List, length, slice_get, slice_index, Some, option_to_list}
use Rattle.std.specs.List.{list_any}
use Rattle.iloc_ops.specs.declared.op.Op.{Op}
use Rattle.iloc_timed.specs.declared.latencies.Latencies.{Latencies}
use Rattle.iloc_timed.specs.declared.row.Row.{Row}
use Rattle.iloc_timed.specs.Cycles.{cycles}
use Rattle.iloc_timed.specs.Rows.{row_at, issue_cycle}
use Rattle.iloc_rules.specs.declared.memory_rule.MemoryRule.{MemoryRule}
use Rattle.iloc_rules.specs.Rule.{counts_by}
use Rattle.iloc_rules.specs.Starts.{start_where}
use Rattle.iloc_explain.specs.declared.explanation.Explained.{Explained}
use Rattle.iloc_explain.specs.declared.explanation.Unit.{Unit as unit_type}
use Rattle.iloc_explain.specs.declared.explanation.Unit.TheVariants as unit
use Rattle.iloc_explain.specs.Chain.{chain_by}
use Rattle.iloc_explain.specs.Holding.{holder}
use Rattle.iloc_explain.specs.Waiting.{IsReadyAt, waited_until}

-- the unit on which a row issues operation i
abbrev pub unit_of : Row → ℕ → unit_type
unit_of row i = if list_any (λ k. i == k) (option_to_list row.zero) then unit.Zero else unit.One

-- How many cycles later operation j could be issued for the delays behind it: the schedule's cycles less its own and less
-- the longest chain of delays from it, whatever priorities rank the operations.
abbrev pub slack_in : MemoryRule → Latencies → List Op → List Row → ℕ → ℕ
slack_in rule lat ops rows j = cycles lat ops rows - issue_cycle rows j - chain_by rule lat ops j

-- `e` is operation `j` by `rule`: when and where it is issued, when it was ready, what it waited for until then, its
-- priority of `prios`, when its delays alone would let it be issued, its slack, and what kept it out of the row before.
pub record IsExplained (prios : List ℕ) (rule : MemoryRule) (lat : Latencies) (ops : List Op) (rows : List Row) (j : ℕ) (e : Explained) : Type 0 where
  pub cycle : e.cycle ≡ issue_cycle rows j
  pub unit : e.unit ≡ unit_of (row_at rows (issue_cycle rows j)) j
  pub ready : IsReadyAt rule lat ops rows j e.ready
  pub after : e.after.items ≡ waited_until rule lat ops rows j e.ready
  pub priority : e.priority ≡ slice_index prios j
  pub earliest : e.earliest ≡ start_where (counts_by rule ops) lat ops j
  pub slack : e.slack ≡ slack_in rule lat ops rows j
  pub held : e.held ≡ holder ops rows j (issue_cycle rows j) e.ready

-- each operation is explained, in the order of their numbers
pub record AreExplained (prios : List ℕ) (rule : MemoryRule) (lat : Latencies) (ops : List Op) (rows : List Row) (explained : List Explained) : Type 0 where
  pub all : length explained ≡ length ops
  pub each : (j : ℕ) (e : Explained) → slice_get explained j ≡ Some e → IsExplained prios rule lat ops rows j e
