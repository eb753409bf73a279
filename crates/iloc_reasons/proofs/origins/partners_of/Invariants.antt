use Rattle.iloc_reasons.proofs.Common.{◌≡◌, length}
use Rattle.iloc_reasons.specs.Steps.Origins.{ArePartners}
use Rattle.iloc_reasons.proofs.origins.partners_of.Given as goal

abbrev pub invariant-loop-k : goal.invariant-loop-k
invariant-loop-k l = record {
  size : length l.partners.items ≡ l.count;
  each : ArePartners l.known l.k l.partners.items;
}
