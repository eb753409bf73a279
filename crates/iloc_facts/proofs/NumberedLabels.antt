-- Labels numbered one operation after another.
use Rattle.iloc_facts.proofs.Common.{◌≡◌, ℕ, ◌+◌, ◌<◌, true, false, List, IfSome, IfNone, Some, None, Option, sym, refl, ap, ◌∙◌, subst, inl, inr, true≢false, arith, cases_lt, Op, by_bool, op_at, NumbersLabels, SetsLike, number_like, are_alike, label, ByLabel}
use Rattle.iloc_facts.proofs.AlikeOps.{alike_itself, alike_test}

pub none_numbered : (ops : List Op) (numbers : ByLabel) → ((op : Op) → number_like numbers op ≡ None)
    → NumbersLabels ops 0 numbers
none_numbered ops numbers none = record {
  all = λ i within. absurd (omega arith);
  own = λ op. subst (λ o. IfSome o (λ k. (k < 0) × (label (op_at ops k) ≡ label op))) (sym (none op)) tt;
}

module _ (ops : List Op) (i : ℕ) where
  later : (op : Op) (o : Option ℕ) → IfSome o (λ k. (k < i) × (label (op_at ops k) ≡ label op))
      → IfSome o (λ k. (k < i + 1) × (label (op_at ops k) ≡ label op))
  later op None is = tt
  later op (Some k) is = (let within : k < i = is.0 in omega arith, is.1)

  module _ (old new : ByLabel) (so_far : NumbersLabels ops i old) (sets : SetsLike old new (op_at ops i) (Some i)) where
    this : (op : Op) → are_alike (op_at ops i) op ≡ true → number_like new op ≡ Some i
    this op t = sets op ∙ rw t refl

    other : (op : Op) → are_alike (op_at ops i) op ≡ false → number_like new op ≡ number_like old op
    other op f = sets op ∙ rw f refl

    all_numbered : (j : ℕ) → j < i + 1 → IfNone (number_like new (op_at ops j)) ⊥
    all_numbered j within = by_bool (are_alike (op_at ops i) (op_at ops j))
        (λ t. subst (λ o. IfNone o ⊥) (sym (this (op_at ops j) t)) tt)
        (λ f. subst (λ o. IfNone o ⊥) (sym (other (op_at ops j) f)) (elim (cases_lt j i) [
          | inl before ↦ so_far.all j before
          | inr last ↦
              let same : i ≡ j = omega arith in
              absurd (true≢false (sym (alike_itself (op_at ops i))
              ∙ ap (λ k. are_alike (op_at ops i) (op_at ops k)) same ∙ f))
        ]))

    own_numbered : (op : Op) → IfSome (number_like new op) (λ k. (k < i + 1) × (label (op_at ops k) ≡ label op))
    own_numbered op = by_bool (are_alike (op_at ops i) op)
        (λ t. subst (λ o. IfSome o (λ k. (k < i + 1) × (label (op_at ops k) ≡ label op))) (sym (this op t))
        (omega arith, (alike_test (op_at ops i) op).0 t))
        (λ f. subst (λ o. IfSome o (λ k. (k < i + 1) × (label (op_at ops k) ≡ label op))) (sym (other op f))
        (later op (number_like old op) (so_far.own op)))

    pub one_more_numbered : NumbersLabels ops (i + 1) new
    one_more_numbered = record { all = all_numbered; own = own_numbered }
