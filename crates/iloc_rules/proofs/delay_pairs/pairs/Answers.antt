use Rattle.std.proofs.Common.{arith}
use Rattle.iloc_rules.proofs.DelayPairs.PairLists.{pairs_all, pairs_exact, pairs_ordered}
use Rattle.iloc_rules.proofs.delay_pairs.pairs.Goals as goal

pub returns-clause-exact : goal.returns-clause-exact
returns-clause-exact c = λ i j d.
    rw (pairs_all c.args.latencies.now c.args.ops.now c.loop-second.second _ (omega arith) c.loop-second.invariant)
    (pairs_exact c.args.latencies.now c.args.ops.now i j d)

pub returns-clause-ordered : goal.returns-clause-ordered
returns-clause-ordered c =
    rw (pairs_all c.args.latencies.now c.args.ops.now c.loop-second.second _ (omega arith) c.loop-second.invariant)
    (pairs_ordered c.args.latencies.now c.args.ops.now)
