use Rattle.iloc_rules.proofs.Common.{◌≡◌, ◌++◌, pairs_from}
use Rattle.iloc_rules.proofs.delay_pairs.push_pairs_to.Given as goal

abbrev pub invariant-loop-first : goal.invariant-loop-first
invariant-loop-first l = l.pairs.items ≡ l.initial.pairs.items ++ pairs_from l.latencies l.ops l.second l.first
