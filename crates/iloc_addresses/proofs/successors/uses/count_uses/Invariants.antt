use Rattle.iloc_addresses.specs.Steps.Successors.{AreDefiners, AreUsesCounted}
use Rattle.iloc_addresses.proofs.successors.uses.count_uses.Given as goal

abbrev pub invariant-loop-j : goal.invariant-loop-j
invariant-loop-j l = record {
  definers : AreDefiners l.ops l.j l.definers;
  found : AreUsesCounted l.ops l.addresses l.found.items l.j;
}
