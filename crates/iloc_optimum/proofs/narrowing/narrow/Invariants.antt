use Rattle.iloc_optimum.proofs.Common.{◌≡◌, ℕ, length, IsTiming, Within}
use Rattle.iloc_optimum.proofs.narrowing.narrow.Given as goal

abbrev pub invariant-loop : goal.invariant-loop
invariant-loop l = (length l.windows.firsts.items ≡ length l.kinds) × (length l.windows.lasts.items ≡ length l.kinds)
    × ((t : ℕ → ℕ) → IsTiming l.edges l.kinds t → Within l.fn.windows.firsts.items l.fn.windows.lasts.items t
    → Within l.windows.firsts.items l.windows.lasts.items t)

abbrev pub invariant-loop-share : goal.invariant-loop-share
invariant-loop-share l = (length l.windows.firsts.items ≡ length l.kinds) × (length l.windows.lasts.items ≡ length l.kinds)
    × ((t : ℕ → ℕ) → IsTiming l.edges l.kinds t → Within l.fn.windows.firsts.items l.fn.windows.lasts.items t
    → Within l.windows.firsts.items l.windows.lasts.items t)
