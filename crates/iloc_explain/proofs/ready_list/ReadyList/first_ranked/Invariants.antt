use Rattle.iloc_explain.proofs.Common.{◌≡◌, ◌≤◌, ◌++◌, map, length, shown}
use Rattle.iloc_explain.specs.declared.ready_list.TheConstants.{MOST_LISTED}
use Rattle.iloc_explain.proofs.ready_list.ReadyList.first_ranked.Given as goal

abbrev pub invariant-loop-place : goal.invariant-loop-place
invariant-loop-place l =
    (goal.iterator-loop-place).can_next l.place-iterator × (goal.iterator-loop-place).is_finite l.place-iterator
    × (l.first.items ++ map shown l.place-iterator ≡ map shown l.self.ready.keys) × (length l.first.items ≤ MOST_LISTED)
