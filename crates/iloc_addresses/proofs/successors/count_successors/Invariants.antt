use Rattle.iloc_addresses.specs.Steps.Successors.{AreCounted, AreNoted}
use Rattle.iloc_addresses.proofs.successors.count_successors.Given as goal

abbrev pub invariant-loop-j : goal.invariant-loop-j
invariant-loop-j l = record {
  counted : AreCounted l.ops l.addresses.items l.found.items l.j;
  noted : AreNoted l.ops l.addresses.items l.later l.j;
}
