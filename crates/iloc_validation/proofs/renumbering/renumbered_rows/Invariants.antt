use Rattle.iloc_validation.proofs.Common.{◌≡◌, map, take, slice_index, renumber}
use Rattle.iloc_validation.proofs.renumbering.renumbered_rows.Given as goal

abbrev pub invariant-loop-row : goal.invariant-loop-row
invariant-loop-row l = l.own.items ≡ map (renumber (slice_index l.numbers)) (take l.row-index l.rows)
