use Rattle.iloc_driver.proofs.Common.{◌≡◌, ◌+◌, ◌-◌, ◌≤◌, map, length, drop, priorities_from, before_and}
use Rattle.iloc_driver.proofs.reading.priorities.numbers_of_all.Given as goal

abbrev pub invariant-loop-alloc : goal.invariant-loop-alloc
invariant-loop-alloc l = (length l.all.items ≤ length l.blocks)
    × (before_and (map (λ numbers. numbers.items) l.all.items)
    (priorities_from (length l.all.items + 1) (drop (length l.all.items) l.blocks) l.rest)
    ≡ priorities_from 1 l.blocks l.text)

abbrev pub decreases-loop-alloc : goal.decreases-loop-alloc
decreases-loop-alloc l = length l.blocks - length l.all.items
