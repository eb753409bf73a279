use Rattle.iloc_validation.proofs.Common.{ℕ, ◌<◌, IsNoPair}
use Rattle.iloc_validation.proofs.decision.partners.+searched.Given as goal

abbrev pub decreases-searched : goal.decreases-searched
decreases-searched l = l.budget.depth

abbrev pub invariant-loop-k : goal.invariant-loop-k
invariant-loop-k l = (j : ℕ) → j < l.k → IsNoPair l.sides l.colours.here.items l.colours.there.items l.i j
