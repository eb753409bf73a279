use Rattle.iloc_optimum.proofs.Common.{◌≡◌, ℕ, length, FitsShares, Within}
use Rattle.iloc_optimum.proofs.crowds.hold_each.Given as goal

abbrev pub invariant-loop-span : goal.invariant-loop-span
invariant-loop-span l = (length l.firsts ≡ length l.initial.firsts) × (length l.lasts ≡ length l.initial.lasts)
    × ((t : ℕ → ℕ) → FitsShares l.kinds t → Within l.initial.firsts l.initial.lasts t → Within l.firsts l.lasts t)
