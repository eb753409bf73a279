use Rattle.std.proofs.Common.{◌∙◌}
use Rattle.iloc_rules.proofs.DelayPairs.PairLists.{pairs_more}
use Rattle.iloc_rules.proofs.delay_pairs.push_pairs_to.Goals as goal

pub loop-first-preserved : goal.loop-first-preserved
loop-first-preserved c =
    pairs_more c.args.latencies.now c.args.ops.now c.args.second c.loop-first.first _ _ _ _ _ _ c.loop-first-test.true
    c.requires c.loop-first.invariant c.in_ok-push_delays.ensures (c.as_slice.ensures.value
    ∙ c.delays-delays.ensures)
