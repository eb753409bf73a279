use Rattle.iloc_rows.proofs.Common.{length, lines_left}
use Rattle.iloc_rows.proofs.Ends.{AreBlocks}
use Rattle.iloc_rows.proofs.blocks_end.cut_before_rows.Given as goal

abbrev pub invariant-loop-rest : goal.invariant-loop-rest
invariant-loop-rest l = AreBlocks l.fn.input l.lines l.rest

abbrev pub decreases-loop-rest : goal.decreases-loop-rest
decreases-loop-rest l = length (lines_left l.rest)
