use Rattle.iloc_optimum.proofs.Common.{◌<◌, length, get_or, MatchOption}
use Rattle.iloc_optimum.proofs.choice.first_open.Given as goal

abbrev pub invariant-loop-i : goal.invariant-loop-i
invariant-loop-i l = MatchOption l.found (Unit {0}) (λ i. (i < length l.windows.firsts.items)
    × (get_or l.windows.firsts.items i 0 < get_or l.windows.lasts.items i 0))
