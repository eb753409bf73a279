use Rattle.iloc_rows.proofs.Common.{◌≡◌, ◌++◌, AllByRecursion, IsNumbered}
use Rattle.iloc_rows.proofs.proposal.Proposals.«of».Given as goal

abbrev pub invariant-loop-proposed : goal.invariant-loop-proposed
invariant-loop-proposed l =
    (l.items.items ++ l.proposed-iterator.rest.items ≡ l.fn.read.items)
    × AllByRecursion IsNumbered l.proposed-iterator.rest.items
