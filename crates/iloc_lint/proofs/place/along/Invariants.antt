use Rattle.iloc_lint.proofs.Common.{◌≡◌, ℕ, ◌+◌, ◌≤◌, true, length, drop, Longest, Rest, alternate}
use Rattle.iloc_lint.proofs.place.along.Given as goal

-- whatever the rest of the bytes goes along, all of them go along so far and on
abbrev pub invariant-loop-part : goal.invariant-loop-part
invariant-loop-part l = record {
  within : l.at ≤ length l.bytes;
  fit : alternate (drop l.part-index l.parts) ≡ true;
  goes_on : (k : ℕ) → Longest (Rest (drop l.part-index l.parts)) (drop l.at l.bytes) k
      → Longest (Rest l.parts) l.bytes (l.at + k);
}
