use Rattle.iloc_sched.proofs.Common.{◌^◌, ◌<◌, HoldsBits}
use Rattle.iloc_sched.proofs.Ranks.Moves.{IsMoving}
use Rattle.iloc_sched.proofs.cycle.words.move_words.Given as goal

abbrev pub invariant-loop-left : goal.invariant-loop-left
invariant-loop-left l = record {
  moving : IsMoving l.block l.left l.bucket l.fn.words l.words;
  there : HoldsBits l.fn.words l.left l.block;
  fits : l.left < 2 ^ 64;
}

abbrev pub decreases-loop-left : goal.decreases-loop-left
decreases-loop-left l = l.left
