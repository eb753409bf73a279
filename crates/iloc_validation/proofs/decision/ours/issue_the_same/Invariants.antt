use Rattle.iloc_validation.proofs.Common.{◌≡◌, ℕ, ◌<◌, row_at, issued_in}
use Rattle.iloc_validation.proofs.decision.ours.issue_the_same.Given as goal

abbrev pub invariant-loop-c : goal.invariant-loop-c
invariant-loop-c l =
    (b : ℕ) → b < l.c → issued_in l.ours.ops (row_at l.ours.rows b) ≡ issued_in l.theirs.ops (row_at l.theirs.rows b)
