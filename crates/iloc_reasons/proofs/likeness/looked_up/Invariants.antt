use Rattle.iloc_reasons.proofs.Common.{ℕ, ◌<◌, ◌≢◌, slice_index, None}
use Rattle.std.specs.Ordering.{nat_cmp}
use Rattle.std.specs.BTreeMap.{get}
use Rattle.iloc_reasons.proofs.likeness.looked_up.Given as goal

abbrev pub invariant-loop-i : goal.invariant-loop-i
invariant-loop-i l = (j : ℕ) → j < l.i → get nat_cmp l.found (slice_index l.terms j) ≢ None
