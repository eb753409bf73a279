use Rattle.iloc_facts.proofs.Common.{◌≡◌, ◌+◌, length, get_or, IfSome, None, sym, ap, ◌∙◌, subst, arith, rules, get_or_default, length_push, Op, Nop, op_at, SetsLike, number_like, IsCounterpart, noted_at}
use Rattle.iloc_facts.proofs.GivenSources.{push_more}
use Rattle.iloc_facts.proofs.NthLike.{taken}
use Rattle.iloc_facts.proofs.counterparts.chains.counterparts_among.Goals as goal

pub loop-op-init : goal.loop-op-init
loop-op-init c = record {
  size = search rules;
  waits = c.in_ok-chains.ensures.first;
  next = λ k within. c.in_ok-chains.ensures.next k (omega arith) within;
  each = λ i before. absurd (omega arith);
}

pub loop-op-preserved : goal.loop-op-preserved
loop-op-preserved c =
    let ops = c.args.ops.now in
    let others = c.args.others.now in
    let i = c.loop-op.op-index in
    let within = c.loop-op-test.true in
    let counterpart = c.in_ok-counterpart.counterpart in
    let same : (d : Op) → get_or ops i d ≡ op_at ops i = λ d. get_or_default ops i d Nop within in
    let first : counterpart ≡ number_like c.loop-op.chains.waiting (op_at ops i) =
    c.in_ok-counterpart.ensures.first ∙ ap (number_like c.loop-op.chains.waiting) (same _) in
    record {
      size = ap length c.in_ok-push.ensures.items ∙ length_push c.loop-op.counterparts.items counterpart
          ∙ ap (λ n. n + 1) c.loop-op.invariant.size;
      waits = taken ops others i within c.loop-op.chains c.take.new.self c.loop-op.invariant.waits
          c.loop-op.invariant.next counterpart first c.in_ok-counterpart.ensures.none
          (subst (λ (op : Op). IfSome counterpart (λ k. SetsLike c.loop-op.chains.waiting c.take.new.self.waiting op
          (noted_at c.loop-op.chains.next.items k))) (same _) c.in_ok-counterpart.ensures.some);
      next = rw c.in_ok-counterpart.ensures.next c.loop-op.invariant.next;
      each = rw c.in_ok-push.ensures.items
          (push_more (λ j o. IsCounterpart ops others j o) c.loop-op.counterparts.items counterpart None i c.loop-op.invariant.size
          c.loop-op.invariant.each
          (subst (IsCounterpart ops others i) (sym first) (c.loop-op.invariant.waits (op_at ops i))));
    }

pub returns : goal.returns
returns c = record {
  size = omega (arith, c.loop-op.invariant.size);
  each = λ i within. c.loop-op.invariant.each i (omega arith);
}
