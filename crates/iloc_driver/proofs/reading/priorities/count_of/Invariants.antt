use Rattle.std.proofs.Common.{◌≡◌, ◌+◌, ◌≤◌, length}
use Rattle.iloc_rules.specs.Renaming.{without_nops}
use Rattle.iloc_driver.proofs.reading.priorities.count_of.Given as goal

abbrev pub invariant-loop-rest : goal.invariant-loop-rest
invariant-loop-rest l = (l.count + length l.rest ≤ length l.fn.ops)
    × (l.count + length (without_nops l.rest) ≡ length (without_nops l.fn.ops))

abbrev pub decreases-loop-rest : goal.decreases-loop-rest
decreases-loop-rest l = length l.rest
