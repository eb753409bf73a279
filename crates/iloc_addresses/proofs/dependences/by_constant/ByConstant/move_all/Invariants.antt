use Rattle.iloc_addresses.proofs.Common.{ℕ, length, ℤ, In, Moves, ops_at}
use Rattle.iloc_addresses.proofs.dependences.by_constant.ByConstant.move_all.Given as goal

abbrev pub invariant-loop-ops : goal.invariant-loop-ops
invariant-loop-ops l = record {
  moves : Moves l.fn.self l.self l.fn.list.items l.list.items;
  left : (c : ℤ) (i : ℕ) → In (ops_at l.self c) i → In (ops_at l.fn.self c) i;
}

abbrev pub decreases-loop-ops : goal.decreases-loop-ops
decreases-loop-ops l = length l.self.ops.entries
