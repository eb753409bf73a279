use Rattle.std.proofs.Common.{◌≡◌, ◌-◌, map, take}
use Rattle.iloc_optimum.proofs.optimizer.rests_of.Given as goal

abbrev pub invariant-loop-number : goal.invariant-loop-number
invariant-loop-number l = l.rests.items ≡ map (λ n. l.limit - n) (take l.number-index l.numbers)
