use Rattle.iloc_reasons.proofs.Common.{◌≡◌, ◌<◌, ◌≤◌, ◌≢◌, length, All, IsFact}
use Rattle.std.specs.Prelude.{AllPairs}
use Rattle.iloc_reasons.proofs.reasons.first_facts.Given as goal

abbrev pub invariant-loop-claim : goal.invariant-loop-claim
invariant-loop-claim l = record {
  facts : All (IsFact l.sides.latencies.now l.sides.block.items l.sides.schedule.now.ops l.sides.schedule.now.rows) l.facts.items;
  once : AllPairs (λ one other. one ≢ other) l.facts.items;
  few : length l.facts.items ≤ 8;
  more : length l.facts.items < 8 → l.more ≡ 0;
}
