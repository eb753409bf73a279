use Rattle.iloc_facts.proofs.Common.{◌≡◌, ℕ, ◌+◌, ◌<◌, List, length, get_or, take, sym, ap, ◌∙◌, true≢false, arith, get_or_default, Op, Nop, by_bool, op_at, are_alike, count_like, label}
use Rattle.iloc_facts.proofs.AlikeOps.{alike_test}
use Rattle.iloc_facts.proofs.CountsLike.{one_more, no_more}
use Rattle.iloc_facts.proofs.label.count_like.Goals as goal
use Rattle.iloc_facts.proofs.label.count_like.Goals.{then-have_one_label, else-have_one_label}

-- One more operation, counted where its label is that of another.
module _ (op : Op) (ops : List Op) (k : ℕ) (within : k < length ops) where
  count_yes : label op ≡ label (op_at ops k) → count_like op (take (k + 1) ops) ≡ count_like op (take k ops) + 1
  count_yes same = one_more op ops k within ((alike_test op (op_at ops k)).1 same)

  count_no : (label op ≡ label (op_at ops k) → ⊥) → count_like op (take (k + 1) ops) ≡ count_like op (take k ops)
  count_no other =
      no_more op ops k within
      (by_bool (are_alike op (op_at ops k)) (λ t. absurd (other ((alike_test op (op_at ops k)).0 t))) (λ f. f))

pub loop-other-preserved : goal.loop-other-preserved
loop-other-preserved c =
    let ops = c.args.ops.now in
    let k = c.loop-other.other-index in
    let within = c.loop-other-test.true in
    let same : (d : Op) → get_or ops k d ≡ op_at ops k = λ d. get_or_default ops k d Nop within in
    elim c.if-have_one_label.branch [
      | then-have_one_label w ↦ record {
        count =
            w.count-is ∙ ap (λ n. n + 1) c.loop-other.invariant.count
            ∙ sym (count_yes c.args.op.now ops k within (c.have_one_label.ensures.0 w.if-have_one_label.true ∙ ap label (same _)));
        few = omega (arith, w.count-is, c.loop-other.invariant.few);
      }
      | else-have_one_label w ↦ record {
        count =
            w.count-is ∙ c.loop-other.invariant.count
            ∙ sym (count_no c.args.op.now ops k within
            (λ one. absurd (true≢false (sym (c.have_one_label.ensures.1 (one ∙ ap label (sym (same _)))) ∙ w.if-have_one_label.false))));
        few = omega (arith, w.count-is, c.loop-other.invariant.few);
      }
    ]
