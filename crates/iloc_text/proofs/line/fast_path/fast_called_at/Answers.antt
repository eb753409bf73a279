use Rattle.iloc_text.proofs.Common.{◌≡◌, Bool, true, false, ◌⊎◌, drop, sym, refl, ap, ◌∙◌, subst, inl, inr, Opcode, Nop, Output, IsMaskOf, IsRead, shape_of}
use Rattle.iloc_text.proofs.FastPath.{called, called_of, mask_of_lead, third_lead, small_op}
use Rattle.iloc_text.proofs.line.fast_path.fast_called_at.Goals as goal
use Rattle.iloc_text.proofs.line.fast_path.fast_called_at.Goals.{in-Nop, in_default, in-Nop-matches, in_default-matches}

differ : (b : Bool) → b ≡ true → b ≡ false → ⊥
differ b one other = cc

other : (o : Opcode) → (o ≡ Nop → ⊥) → (o ≡ Nop) ⊎ (o ≡ Output) → o ≡ Output
other o h (inl e) = absurd (h e)
other o h (inr e) = e

pub returns-then-matches-2-clause-is : goal.returns-then-matches-2-clause-is
returns-then-matches-2-clause-is c =
    let is : c.args.opcode ≡ Nop = elim c.match-matches-2.branch [
      | in-Nop-matches w ↦ w.in-Nop-matches.is
      | in_default-matches w ↦ absurd (differ c.match-matches-2.matches c.if-matches-2.true w.matches-is)
    ] in
    rw is (called_of Nop (drop c.args.start c.args.bytes.now) 0 0 0 _ _ _ refl refl refl)

pub returns-then-matches-clause-is : goal.returns-then-matches-clause-is
returns-then-matches-clause-is c =
    let not_nop : c.args.opcode ≡ Nop → ⊥ = elim c.match-matches-2.branch [
      | in-Nop-matches w ↦ absurd (differ c.match-matches-2.matches w.matches-is c.if-matches-2.false)
      | in_default-matches w ↦ w.in_default-matches.not-Nop
    ] in
    let is : c.args.opcode ≡ Output = elim c.match-matches.branch [
      | in-Nop w ↦ other c.args.opcode not_nop w.in-Nop.is
      | in_default w ↦ absurd (differ c.match-matches.matches c.if-matches.true w.matches-is)
    ] in
    let rest = drop c.in_ok-addr.at c.args.bytes.now in
    let first = subst (λ s. IsRead s.first.kind (drop c.args.start c.args.bytes.now) (c.in_ok-addr.addr, rest))
    (c.of-shape.ensures ∙ ap shape_of is) c.in_ok-addr.ensures.is in
    rw is (called_of Output (drop c.args.start c.args.bytes.now) c.in_ok-addr.addr 0 0 rest rest rest first refl refl)

pub operand_from-requires-4-clause-lead : goal.operand_from-requires-4-clause-lead
operand_from-requires-4-clause-lead c = third_lead c.args.opcode c.of-shape.result.now c.of-shape.ensures

pub operand_from-requires-4-clause-mask : goal.operand_from-requires-4-clause-mask
operand_from-requires-4-clause-mask c =
    let kind = c.of-shape.result.now.third.kind in
    subst (λ l. IsMaskOf kind l.usual.mask) (sym (third_lead c.args.opcode c.of-shape.result.now c.of-shape.ensures)) (mask_of_lead kind)

pub returns-clause-is : goal.returns-clause-is
returns-clause-is c =
    rw c.op_of.ensures (called c.args.opcode c.of-shape.result.now _ _ _ _ _ _ _ c.of-shape.ensures
    c.in_ok-first.ensures.is c.in_ok-second.ensures.is c.in_ok-third.ensures.is)

pub returns-clause-small : goal.returns-clause-small
returns-clause-small c =
    rw c.op_of.ensures (small_op c.args.opcode _ _ _ c.in_ok-first.ensures.small c.in_ok-second.ensures.small
    c.in_ok-third.ensures.small)
