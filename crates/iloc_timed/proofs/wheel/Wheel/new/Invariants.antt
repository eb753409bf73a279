use Rattle.std.proofs.Common.{◌≡◌, [], map, replicate}
use Rattle.std.specs.List.{All}
use Rattle.iloc_timed.proofs.wheel.Wheel.new.Given as goal

abbrev pub invariant-loop : goal.invariant-loop
invariant-loop g l = (map (λ list. list.items) l.lists.items ≡ replicate l.counter [])
    × All (λ list. All g.T.Lands.can_land list.items) l.lists.items
