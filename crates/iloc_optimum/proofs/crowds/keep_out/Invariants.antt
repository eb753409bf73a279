use Rattle.iloc_optimum.specs.Steps.Inside.{IsKept}
use Rattle.iloc_optimum.proofs.crowds.keep_out.Given as goal

abbrev pub invariant-loop-i : goal.invariant-loop-i
invariant-loop-i l = IsKept l.kinds l.initial.firsts l.initial.lasts l.firsts l.lasts l.i
