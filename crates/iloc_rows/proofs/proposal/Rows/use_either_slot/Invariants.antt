use Rattle.iloc_rows.proofs.Common.{◌≡◌, ◌++◌, map, take, drop, in_either_slot}
use Rattle.iloc_rows.proofs.proposal.Rows.use_either_slot.Given as goal

abbrev pub invariant-loop-row : goal.invariant-loop-row
invariant-loop-row l =
    l.row-items ≡ map (in_either_slot l.ops) (take l.row-index l.fn.self) ++ drop l.row-index l.fn.self
