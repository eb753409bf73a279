-- Which pairs of operations count by a rule of memory.
use Rattle.std.specs.Prelude.{List}
use Rattle.iloc_ops.specs.declared.op.Op.{Op}
use Rattle.iloc_rules.specs.declared.memory_rule.MemoryRule.{MemoryRule}
use Rattle.iloc_rules.specs.declared.memory_rule.MemoryRule.TheVariants.{Book, Address}
use Rattle.iloc_rules.specs.Apart.{by_address}
use Rattle.iloc_rules.specs.Delays.{Counts, all_count}

-- which pairs of a list of operations count by a rule: by the book all, by address all but the pairs that are known to
-- be apart
abbrev pub counts_by : MemoryRule → List Op → Counts
counts_by Book ops = all_count
counts_by Address ops = by_address ops
