use Rattle.iloc_rows.proofs.Common.{◌≡◌, [], proposals_of}
use Rattle.iloc_rows.proofs.proposing.Proposing.none.Given as goal

abbrev pub invariant-loop : goal.invariant-loop
invariant-loop l = l.proposals.items ≡ proposals_of l.counter []
