use Rattle.iloc_rules.proofs.Common.{◌≡◌, ◌++◌, take, with_delays}
use Rattle.iloc_rules.proofs.delay_pairs.push_delays.Given as goal

abbrev pub invariant-loop-delay : goal.invariant-loop-delay
invariant-loop-delay l = l.pairs.items ≡ l.initial.pairs.items ++ with_delays l.first l.second
    (take l.delay-index l.delays)
