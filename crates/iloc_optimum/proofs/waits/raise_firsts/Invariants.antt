use Rattle.iloc_optimum.proofs.Common.{◌≡◌, ℕ, List, length, WaitsFor, Within}
use Rattle.iloc_optimum.proofs.waits.raise_firsts.Given as goal

abbrev pub invariant-loop-edge : goal.invariant-loop-edge
invariant-loop-edge l = (length l.firsts.items ≡ length l.initial.firsts.items)
    × ((lasts : List ℕ) (t : ℕ → ℕ) → WaitsFor l.edges t → Within l.initial.firsts.items lasts t → Within l.firsts.items lasts t)
