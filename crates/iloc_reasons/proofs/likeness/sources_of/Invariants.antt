use Rattle.iloc_reasons.proofs.Common.{◌≡◌, map, take, Reading}
use Rattle.iloc_reasons.proofs.likeness.sources_of.Given as goal

abbrev pub invariant-loop-reading : goal.invariant-loop-reading
invariant-loop-reading l = l.sources.items ≡ map (λ (r : Reading). r.sources) (take l.reading-index l.readings)
