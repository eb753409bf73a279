use Rattle.iloc_addresses.proofs.Common.{◌≡◌, map, kind, one_address}
use Rattle.std.specs.Prelude.{take}
use Rattle.iloc_addresses.proofs.successors.one_address_each.Given as goal

abbrev pub invariant-loop-op : goal.invariant-loop-op
invariant-loop-op l = l.reached.items ≡ map (λ op. one_address (kind op)) (take l.op-index l.ops)
