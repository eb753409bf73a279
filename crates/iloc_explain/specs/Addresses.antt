-- What is known of addresses by a rule of memory.
use Rattle.std.specs.Prelude.{◌≡◌, List, length, map, Option}
use Rattle.std.specs.List.{range_with_len}
use Rattle.iloc_ops.specs.declared.op.Op.{Op}
use Rattle.iloc_rules.specs.declared.memory_rule.MemoryRule.{MemoryRule}
use Rattle.iloc_rules.specs.declared.memory_rule.MemoryRule.TheVariants.{Address}
use Rattle.iloc_rules.specs.declared.word.Word.{Word}
use Rattle.iloc_rules.specs.Apart.{address_at}

-- `addresses` has what is known by address of the addresses of `ops`, if `rule` is to go by them
abbrev pub AreAddresses : MemoryRule → List Op → List (Option Word) → Type 0
AreAddresses rule ops addresses = rule ≡ Address → addresses ≡ map (address_at ops) (range_with_len 0 (length ops))
