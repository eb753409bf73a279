use Rattle.std.proofs.Common.{◌≡◌, ◌<◌, ℕ, [], length, get_or}
use Rattle.iloc_timed.proofs.wheel.Wheel.clear_all.Given as goal

abbrev pub invariant-loop-cycle : goal.invariant-loop-cycle
invariant-loop-cycle g l = (length l.self ≡ 16) × ((k : ℕ) → k < l.cycle → get_or l.self k [] ≡ [])
