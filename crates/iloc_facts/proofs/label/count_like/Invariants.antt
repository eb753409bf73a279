use Rattle.iloc_facts.proofs.Common.{◌≡◌, ◌≤◌, take, count_like}
use Rattle.iloc_facts.proofs.label.count_like.Given as goal

abbrev pub invariant-loop-other : goal.invariant-loop-other
invariant-loop-other l = record {
  count : l.count ≡ count_like l.op (take l.other-index l.ops);
  few : l.count ≤ l.other-index;
}
