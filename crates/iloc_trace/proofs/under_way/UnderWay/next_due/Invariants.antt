use Rattle.std.proofs.Common.{◌≡◌, take, None}
use Rattle.std.specs.Prelude.{fold}
use Rattle.iloc_trace.specs.Steps.Arrivals.{first_for}
use Rattle.iloc_trace.proofs.under_way.UnderWay.next_due.Given as goal

abbrev pub invariant-loop-arrival : goal.invariant-loop-arrival
invariant-loop-arrival l = l.first ≡ fold (first_for l.place) None (take l.arrival-index l.arrival-items)
