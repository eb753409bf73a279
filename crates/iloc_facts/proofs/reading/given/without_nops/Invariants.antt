use Rattle.std.proofs.Common.{◌≡◌, take}
use Rattle.iloc_rules.specs.Renaming.{without_nops}
use Rattle.iloc_facts.proofs.reading.given.without_nops.Given as goal

abbrev pub invariant-loop-op : goal.invariant-loop-op
invariant-loop-op l = l.ops.items ≡ without_nops (take l.op-index l.op-items)
