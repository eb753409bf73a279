use Rattle.iloc_verdict.proofs.Common.{◌≡◌, ◌++◌, take, flat_map, part_as}
use Rattle.iloc_verdict.proofs.remark.push_each.Given as goal

abbrev pub invariant-loop-part : goal.invariant-loop-part
invariant-loop-part l = l.text.items ≡ l.initial.text.items ++ flat_map (part_as l.form) (take l.part-index l.parts)
