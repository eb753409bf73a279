use Rattle.iloc_rows.proofs.Common.{◌≡◌, ◌++◌, map, take, drop, with_either_slot}
use Rattle.iloc_rows.proofs.proposal.Proposals.placed.Given as goal

abbrev pub invariant-loop-proposal : goal.invariant-loop-proposal
invariant-loop-proposal l =
    l.proposal-items ≡ map with_either_slot (take l.proposal-index l.fn.self) ++ drop l.proposal-index l.fn.self
