use Rattle.iloc_facts.proofs.Common.{◌≡◌, ℕ, ◌+◌, ◌<◌, length, take, Op, op_at, number_like, count_like, IsCounterpart, IsNth, noted_at}
use Rattle.iloc_facts.proofs.counterparts.chains.counterparts_among.Given as goal

abbrev pub invariant-loop-op : goal.invariant-loop-op
invariant-loop-op l = record {
  size : length l.counterparts.items ≡ l.op-index;
  waits : (op : Op) → IsNth l.others op (count_like op (take l.op-index l.ops)) (number_like l.chains.waiting op);
  next : (k : ℕ) → k < length l.others → IsNth l.others (op_at l.others k)
      (count_like (op_at l.others k) (take k l.others) + 1) (noted_at l.chains.next.items k);
  each : (i : ℕ) → i < l.op-index → IsCounterpart l.ops l.others i (noted_at l.counterparts.items i);
}
