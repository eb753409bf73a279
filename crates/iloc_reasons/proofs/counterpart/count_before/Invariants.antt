use Rattle.iloc_reasons.proofs.Common.{◌≡◌, ◌≤◌, take, op_at, count_like}
use Rattle.iloc_reasons.proofs.counterpart.count_before.Given as goal

abbrev pub invariant-loop-j : goal.invariant-loop-j
invariant-loop-j l = record {
  count : l.count ≡ count_like (op_at l.ops l.k) (take l.j l.ops);
  few : l.count ≤ l.j;
}
