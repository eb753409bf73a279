use Rattle.iloc_bound.proofs.Common.{◌≡◌, drop, needed}
use Rattle.iloc_bound.proofs.needed.needed.Given as goal

abbrev pub invariant-loop-i : goal.invariant-loop-i
invariant-loop-i l = l.most ≡ needed l.first l.width (drop l.i l.tails.items)
