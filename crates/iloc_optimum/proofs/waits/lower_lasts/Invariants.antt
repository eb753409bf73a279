use Rattle.iloc_optimum.proofs.Common.{◌≡◌, ℕ, List, length, WaitsFor, Within}
use Rattle.iloc_optimum.proofs.waits.lower_lasts.Given as goal

abbrev pub invariant-loop-x : goal.invariant-loop-x
invariant-loop-x l = (length l.lasts.items ≡ length l.initial.lasts.items)
    × ((firsts : List ℕ) (t : ℕ → ℕ) → WaitsFor l.edges t → Within firsts l.initial.lasts.items t → Within firsts l.lasts.items t)
