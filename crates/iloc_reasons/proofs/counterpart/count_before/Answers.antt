use Rattle.iloc_reasons.proofs.Common.{◌≡◌, ◌+◌, ◌<◌, length, get_or, sym, ap, ◌∙◌, true≢false, arith, get_or_default, Op, Nop, op_at, are_alike, label}
use Rattle.iloc_meaning.proofs.Cases.{by_bool}
use Rattle.iloc_facts.proofs.AlikeOps.{alike_test}
use Rattle.iloc_facts.proofs.CountsLike.{one_more, no_more}
use Rattle.iloc_reasons.proofs.counterpart.count_before.Goals as goal
use Rattle.iloc_reasons.proofs.counterpart.count_before.Goals.{then-have_one_label, else-have_one_label}

pub loop-j-preserved : goal.loop-j-preserved
loop-j-preserved c =
    let ops = c.args.ops.now in
    let k = c.args.k in
    let j = c.loop-j.j in
    let within : j < length ops = omega (arith, c.loop-j-test.true, c.requires) in
    let here : (d : Op) → get_or ops k d ≡ op_at ops k = λ d. get_or_default ops k d Nop c.requires in
    let there : (d : Op) → get_or ops j d ≡ op_at ops j = λ d. get_or_default ops j d Nop within in
    elim c.if-have_one_label.branch [
      | then-have_one_label w ↦
          let same : label (op_at ops k) ≡ label (op_at ops j) =
          ap label (sym (here _)) ∙ c.have_one_label.ensures.0 w.if-have_one_label.true ∙ ap label (there _) in
          record {
            count = w.count-is ∙ ap (λ n. n + 1) c.loop-j.invariant.count
                ∙ sym (one_more (op_at ops k) ops j within ((alike_test (op_at ops k) (op_at ops j)).1 same));
            few = omega (arith, w.count-is, c.loop-j.invariant.few);
          }
      | else-have_one_label w ↦
          let other : label (op_at ops k) ≡ label (op_at ops j) → ⊥ =
          λ same. absurd (true≢false (sym (c.have_one_label.ensures.1 (ap label (here _) ∙ same ∙ ap label (sym (there _))))
          ∙ w.if-have_one_label.false)) in
          record {
            count = w.count-is ∙ c.loop-j.invariant.count
                ∙ sym (no_more (op_at ops k) ops j within (by_bool (are_alike (op_at ops k) (op_at ops j))
                (λ t. absurd (other ((alike_test (op_at ops k) (op_at ops j)).0 t))) (λ f. f)));
            few = omega (arith, w.count-is, c.loop-j.invariant.few);
          }
    ]
