use Rattle.iloc_explain.proofs.Common.{◌≡◌, not, map, find, holds, number}
use Rattle.iloc_explain.proofs.ready_list.ReadyList.left_out.Given as goal

abbrev pub invariant-loop-place : goal.invariant-loop-place
invariant-loop-place l =
    (goal.iterator-loop-place).can_next l.place-iterator × (goal.iterator-loop-place).is_finite l.place-iterator
    × (find (λ j. not (holds l.row j)) (map number l.place-iterator) ≡ find (λ j. not (holds l.row j)) (map number l.self.ready.keys))
