-- What pins the longest chains down, by either rule of memory.
use Rattle.iloc_explain.proofs.Common.{◌≡◌, List, length, Op, Latencies, MemoryRule, chain_by, chains_by, counts_by}
use Rattle.iloc_rules.specs.Apart.{by_address}
use Rattle.iloc_rules.specs.Steps.Chains.{IsChainOutWhere}
use Rattle.iloc_rules.specs.declared.memory_rule.MemoryRule.TheVariants.{Address, Book}
use Rattle.iloc_rules.proofs.PriorityValues.Longest as book
use Rattle.iloc_rules.proofs.PriorityValues.LongestWhere as where_counted

pub length-chains : (rule : MemoryRule) (lat : Latencies) (ops : List Op) → length (chains_by rule lat ops) ≡ length ops
length-chains Book lat ops = book.length-priorities lat ops
length-chains Address lat ops = where_counted.length_where (by_address ops) lat ops

pub is_chain : (rule : MemoryRule) (lat : Latencies) (ops : List Op)
    → IsChainOutWhere (counts_by rule ops) lat ops (chain_by rule lat ops) (chain_by rule lat ops)
is_chain Book lat ops = book.is_priority lat ops
is_chain Address lat ops = where_counted.is_priority (by_address ops) lat ops
