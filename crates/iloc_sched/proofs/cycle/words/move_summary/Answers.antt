use Rattle.std.proofs.Common.{arith}
use Rattle.iloc_sched.proofs.Ranks.Moves.{noting_start, noting_more}
use Rattle.iloc_sched.proofs.cycle.words.move_summary.Goals as goal

pub loop-class-init : goal.loop-class-init
loop-class-init c = noting_start c.args.summary.now c.args.some c.args.block c.args.bucket c.requires.bucket c.requires.there

pub loop-class-preserved : goal.loop-class-preserved
loop-class-preserved c =
    noting_more c.args.summary.now c.loop-class.summary c.args.some c.args.block c.args.bucket c.loop-class.class c.requires.bucket
    (omega arith) c.requires.there c.loop-class.invariant

pub returns : goal.returns
returns c = grind arith
