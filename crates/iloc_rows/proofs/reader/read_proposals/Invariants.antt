use Rattle.iloc_rows.proofs.Common.{length, lines_left}
use Rattle.iloc_rows.proofs.Reading.{Progress}
use Rattle.iloc_rows.proofs.reader.read_proposals.Given as goal

abbrev pub invariant-loop-rest : goal.invariant-loop-rest
invariant-loop-rest l = Progress l.fn.blocks l.fn.lines (lines_left l.fn.rows) l.proposing l.number l.rest

abbrev pub decreases-loop-rest : goal.decreases-loop-rest
decreases-loop-rest l = length (lines_left l.rest)
