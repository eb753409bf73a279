use Rattle.iloc_optimum.proofs.Common.{◌≡◌, count_inside}
use Rattle.iloc_optimum.proofs.crowds.count_inside.Given as goal

abbrev pub invariant-loop-i : goal.invariant-loop-i
invariant-loop-i l = l.count ≡ count_inside l.kinds l.firsts l.lasts l.share l.from l.to l.i
