-- What a dependence graph is the graph of.
use Rattle.std.specs.Prelude.{List}
use Rattle.iloc_ops.specs.declared.op.Op.{Op}
use Rattle.iloc_timed.specs.declared.latencies.Latencies.{Latencies}
use Rattle.iloc_rules.specs.declared.memory_rule.MemoryRule.{MemoryRule}
use Rattle.iloc_rules.specs.Renaming.{renamed}

-- renamed operations, how long they take, and by which rule they wait for each other by memory
pub record GraphOf : Type 0 where
  pub rule : MemoryRule
  pub ops : List Op
  pub latencies : Latencies

-- the graph of `block` by `rule`
abbrev pub of_block : MemoryRule → Latencies → List Op → GraphOf
of_block rule lat block = record { rule = rule; ops = renamed block; latencies = lat }
