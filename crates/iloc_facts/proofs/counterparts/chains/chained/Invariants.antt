use Rattle.iloc_facts.proofs.Common.{◌≡◌, ℕ, ◌+◌, length, AreChained}
use Rattle.iloc_facts.proofs.counterparts.chains.chained.Given as goal

abbrev pub invariant-loop-place : goal.invariant-loop-place
invariant-loop-place l = (k : ℕ) → k + l.place ≡ length l.ops → AreChained l.ops k l.chains
