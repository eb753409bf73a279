use Rattle.iloc_sched.specs.Steps.Cycle.RankSets.{NotesMoved}
use Rattle.iloc_sched.proofs.cycle.words.move_summary.Given as goal

abbrev pub invariant-loop-class : goal.invariant-loop-class
invariant-loop-class l = NotesMoved l.fn.summary l.summary l.some l.block l.bucket l.class
