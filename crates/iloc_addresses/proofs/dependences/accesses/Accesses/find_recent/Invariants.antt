use Rattle.iloc_addresses.proofs.Common.{◌≡◌, ℕ, ◌-◌, ◌<◌, ◌≤◌, true, [], length, get_or, are_apart, ops_at, Finds, constant_of}
use Rattle.iloc_addresses.specs.declared.dependences.accesses.Access.{Access}
use Rattle.iloc_addresses.proofs.dependences.accesses.Accesses.find_recent.Given as goal

abbrev pub invariant-loop-far : goal.invariant-loop-far
invariant-loop-far l = record {
  within : l.far ≤ length l.self.recent.items;
  finds : Finds l.fn.self.base l.fn.self l.self l.fn.found.items l.found.items;
  base : l.self.base ≡ l.fn.self.base;
  apart : ops_at l.fn.self.kept (constant_of l.fn.self.base) ≡ [] → ops_at l.self.kept (constant_of l.fn.self.base) ≡ [];
  far : (k : ℕ) (d : Access) → k < l.far → are_apart (get_or l.self.recent.items k d).address l.self.base ≡ true;
}

abbrev pub decreases-loop-far : goal.decreases-loop-far
decreases-loop-far l = length l.self.recent.items - l.far
