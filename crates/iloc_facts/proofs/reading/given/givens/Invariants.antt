use Rattle.iloc_facts.proofs.Common.{◌≡◌, ℕ, ◌<◌, length, used, Reg, op_at, given, sources_at, sources_of, holder}
use Rattle.iloc_facts.proofs.reading.given.givens.Given as goal

abbrev pub invariant-loop-i : goal.invariant-loop-i
invariant-loop-i l = record {
  held : (r : Reg) → holder l.holders r ≡ given l.block l.i r;
  size : length l.givens.items ≡ l.i;
  each : (j : ℕ) → j < l.i → sources_at l.givens.items j ≡ sources_of (given l.block j) (used (op_at l.block j));
}
