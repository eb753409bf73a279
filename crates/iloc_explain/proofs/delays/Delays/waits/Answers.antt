use Rattle.iloc_explain.proofs.Common.{get_or_default, Nop}
use Rattle.iloc_explain.proofs.HasDelay.{waits_is}
use Rattle.iloc_explain.proofs.delays.Delays.waits.Goals as goal

pub returns-then-i-j : goal.returns-then-i-j
returns-then-i-j c =
    waits_is c.args.self.now.rule c.args.self.now.latencies.now c.args.self.now.ops.now c.args.i c.args.j c.args.delay _ _ _ _ c.if-i-j.true
    c.counts.ensures
    (get_or_default c.args.self.now.ops.now c.args.i _ Nop c.requires.first)
    (get_or_default c.args.self.now.ops.now c.args.j _ Nop c.requires.second) c.puts_delay_where.ensures
