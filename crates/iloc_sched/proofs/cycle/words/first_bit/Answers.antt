use Rattle.iloc_sched.proofs.Ranks.Firsts.{no_first_bit, the_first_bit}
use Rattle.iloc_sched.proofs.cycle.words.first_bit.Goals as goal

pub returns-then-open-eq0 : goal.returns-then-open-eq0
returns-then-open-eq0 c = no_first_bit c.args.ready c.args.kept_out c.ranges.ready.fits c.ranges.kept_out.fits c.if-open-eq0.true

pub returns-else-open-eq0 : goal.returns-else-open-eq0
returns-else-open-eq0 c = the_first_bit c.args.ready c.args.kept_out c.ranges.ready.fits c.ranges.kept_out.fits c.if-open-eq0.false
