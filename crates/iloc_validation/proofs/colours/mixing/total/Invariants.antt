use Rattle.iloc_validation.proofs.Common.{◌≡◌, ◌%◌, ◌^◌, take, sum_by, mixed}
use Rattle.iloc_validation.proofs.colours.mixing.total.Given as goal

abbrev pub invariant-loop-colour : goal.invariant-loop-colour
invariant-loop-colour l = l.total ≡ sum_by (λ c. mixed c 1) (take l.colour-index l.colours) % 2 ^ 64
