use Rattle.iloc_validation.proofs.Common.{ℕ, ◌<◌, IsKept}
use Rattle.iloc_validation.proofs.verification.is_schedule_under.Given as goal

abbrev pub invariant-loop-k : goal.invariant-loop-k
invariant-loop-k l = (j : ℕ) → j < l.k → IsKept l.sides l.waits.items l.pairing.origin.items j
