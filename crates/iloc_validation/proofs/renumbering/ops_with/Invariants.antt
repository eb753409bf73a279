use Rattle.iloc_validation.proofs.Common.{◌≡◌, map, take, op_at}
use Rattle.iloc_validation.proofs.renumbering.ops_with.Given as goal

abbrev pub invariant-loop-number : goal.invariant-loop-number
invariant-loop-number l = l.found.items ≡ map (op_at l.ops) (take l.number-index l.numbers)
