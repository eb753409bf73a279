use Rattle.iloc_validation.proofs.Common.{◌≡◌, Option, option_map, sym, ap, ◌∙◌, Op, op_at}
use Rattle.iloc_validation.proofs.SameRows.{slot_same}
use Rattle.iloc_validation.proofs.decision.ours.are_alike.Goals as goal

pub returns-then-eq : goal.returns-then-eq
returns-then-eq c =
    let first = slot_same c.issued.result c.issued-2.result in
    let second = slot_same c.issued-then-eq.result c.issued-then-eq-2.result in
    let zero : option_map (op_at c.args.ops.now) c.args.row.zero ≡ option_map (op_at c.args.others.now) c.args.other.zero =
    sym c.issued.ensures ∙ (first.0 (sym c.eq.ensures ∙ c.if-eq.true) ∙ c.issued-2.ensures) in (
      λ same.
          let one : option_map (op_at c.args.ops.now) c.args.row.one ≡ option_map (op_at c.args.others.now) c.args.other.one =
          sym c.issued-then-eq.ensures ∙ (second.0 (sym c.eq-then-eq.ensures ∙ same) ∙ c.issued-then-eq-2.ensures) in
          λ i. (zero i, one i),
      λ both.
          let one : option_map (op_at c.args.ops.now) c.args.row.one ≡ option_map (op_at c.args.others.now) c.args.other.one =
          ap (λ (p : Option Op × Option Op). p.1) both in
          c.eq-then-eq.ensures ∙ second.1 (c.issued-then-eq.ensures ∙ (one ∙ sym c.issued-then-eq-2.ensures)),
    )
