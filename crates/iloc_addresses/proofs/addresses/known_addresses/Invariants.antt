use Rattle.iloc_addresses.proofs.Common.{◌≡◌, map, range_with_len, address_at, AreBefore}
use Rattle.iloc_addresses.proofs.addresses.known_addresses.Given as goal

abbrev pub invariant-loop-i : goal.invariant-loop-i
invariant-loop-i l = record {
  found : l.found.items ≡ map (address_at l.ops) (range_with_len 0 l.i);
  known : AreBefore l.ops l.i l.registers;
}
