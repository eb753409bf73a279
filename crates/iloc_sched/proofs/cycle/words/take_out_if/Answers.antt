use Rattle.iloc_sched.proofs.Ranks.Summaries.{takes_bit}
use Rattle.iloc_sched.proofs.cycle.words.take_out_if.Goals as goal

pub returns : goal.returns
returns c = rw c.from.ensures (takes_bit c.args.words.now c.args.set c.args.rank c.requires.set c.requires.there c.args.condition)
