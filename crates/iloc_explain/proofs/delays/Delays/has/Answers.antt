use Rattle.iloc_explain.proofs.Common.{get_or_default, Nop, counts_by}
use Rattle.iloc_explain.proofs.HasDelay.{has_delay_at}
use Rattle.iloc_explain.proofs.delays.Delays.has.Goals as goal

pub returns : goal.returns
returns c =
    has_delay_at (counts_by c.args.self.now.rule c.args.self.now.ops.now) c.args.self.now.latencies.now c.args.self.now.ops.now c.args.i c.args.j c.args.delay _ _ _ _ c.counts.ensures
    (get_or_default c.args.self.now.ops.now c.args.i _ Nop c.requires.first)
    (get_or_default c.args.self.now.ops.now c.args.j _ Nop c.requires.second) c.puts_delay_where.ensures
