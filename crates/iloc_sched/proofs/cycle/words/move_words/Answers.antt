use Rattle.iloc_sched.proofs.Common.{◌%◌, arith, w64, trailing_zeros}
use Rattle.iloc_sched.proofs.Ranks.Firsts.{low_there, low_set, still_held}
use Rattle.iloc_sched.proofs.Ranks.Moves.{moving_start, moving_step}
use Rattle.iloc_sched.proofs.cycle.words.move_words.Goals as goal

pub move_next-left-requires-clause-there : goal.move_next-left-requires-clause-there
move_next-left-requires-clause-there c =
    low_there c.args.words.now c.args.some c.args.block c.ranges.some.fits c.requires.there c.requires.block

pub loop-left-init : goal.loop-left-init
loop-left-init c =
    let m = c.move_next-left in
    let words = c.args.words.now in
    record {
      moving = moving_step c.args.block c.args.some m.result c.args.bucket (trailing_zeros w64 c.args.some % 64) words words m.new.words
          c.requires.bucket (omega arith) (moving_start c.args.block c.args.some c.args.bucket words c.requires.summary)
          m.ensures.moved m.ensures.others m.ensures.size m.ensures.gone m.ensures.stays;
      there = still_held words c.args.some m.result c.args.block (trailing_zeros w64 c.args.some % 64) c.requires.there
          m.ensures.gone m.ensures.stays;
      fits = let most = m.ensures.most in let small = c.ranges.some.fits in omega arith;
    }

pub move_next-left-requires-in-loop-left-clause-there : goal.move_next-left-requires-in-loop-left-clause-there
move_next-left-requires-in-loop-left-clause-there c = grind (arith, low_set)

pub loop-left-preserved : goal.loop-left-preserved
loop-left-preserved c =
    let at = c.loop-left.invariant in
    let m = c.move_next-left-in-loop-left in
    let low = trailing_zeros w64 c.loop-left.left % 64 in
    record {
      moving = moving_step c.args.block c.loop-left.left m.result c.args.bucket low c.args.words.now c.loop-left.words m.new.words
          c.requires.bucket (omega arith) at.moving m.ensures.moved m.ensures.others m.ensures.size m.ensures.gone m.ensures.stays;
      there = still_held c.args.words.now c.loop-left.left m.result c.args.block low at.there m.ensures.gone m.ensures.stays;
      fits = let most = m.ensures.most in let small = at.fits in omega arith;
    }
