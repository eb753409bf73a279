use Rattle.iloc_facts.proofs.Common.{◌≡◌, take, fold, Reg, landed_at, holder}
use Rattle.iloc_facts.proofs.reading.run.land_all.Given as goal

abbrev pub invariant-loop-arrival : goal.invariant-loop-arrival
invariant-loop-arrival l = (r : Reg)
    → holder l.holders r ≡ fold (landed_at r) (holder l.initial.holders r) (take l.arrival-index l.due)
