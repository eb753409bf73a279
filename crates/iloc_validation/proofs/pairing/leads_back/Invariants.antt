use Rattle.std.proofs.Common.{◌≡◌, ◌<◌, ℕ, length, slice_index}
use Rattle.iloc_validation.proofs.pairing.leads_back.Given as goal

abbrev pub invariant-loop-k : goal.invariant-loop-k
invariant-loop-k l = (j : ℕ) → j < l.k
    → (slice_index l.there j < length l.back) × (slice_index l.back (slice_index l.there j) ≡ j)
