use Rattle.iloc_validation.proofs.Common.{◌≡◌, ℕ, ◌<◌, length, slice_index, ArePlaces, first_here, numbers_below}
use Rattle.iloc_validation.proofs.decision.first_colours.first_here.Given as goal

abbrev pub invariant-loop-i : goal.invariant-loop-i
invariant-loop-i l = record {
  size : length l.colours.items ≡ l.i;
  each : (j : ℕ) → j < l.i → slice_index l.colours.items j ≡ first_here l.labels l.block j;
  places : ArePlaces l.block (numbers_below l.i) l.places;
}
