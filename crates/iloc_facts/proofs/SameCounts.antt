-- Of operations of which none lacks a counterpart both sides have as many of each label, and the other way round.
use Rattle.iloc_facts.proofs.Common.{◌≡◌, ℕ, zero, suc, ◌+◌, ◌<◌, ◌≤◌, true, false, List, length, get_or, take, count_by, sym, ap, ◌∙◌, subst, inl, inr, true≢false, arith, cases_lt, count_by_more_no, le-leb, eqb-true, Op, by_bool, op_at, are_alike, count_like, lacking, lacks_counterpart}
use Rattle.std.specs.Prelude.{◌==◌, ◌&&◌}
use Rattle.std.specs.List.{range_with_len}
use Rattle.std.proofs.Common.{ap₂, leb-true}
use Rattle.std.proofs.Math.Seq.{take-length}
use Rattle.std.proofs.lemmas.Bool.{and_parts}
use Rattle.std.proofs.lemmas.List.FromFn.{get_or-range_with_len, length-range_with_len}
use Rattle.iloc_facts.specs.Counts.{AreItsOperations, has_operations}
use Rattle.iloc_facts.proofs.AlikeOps.{alike_itself, count_same}
use Rattle.iloc_facts.proofs.CountsLike.{counted, no_more, one_counted, one_more}

-- Operations of which none lacks a counterpart on either side are as many of each label.
module _ (ops others : List Op) (none : lacking ops others ≡ 0) (op : Op) where
  has_one : (i : ℕ) → i < length ops → lacks_counterpart ops others i ≡ true → ⊥
  has_one i within lacks =
      let numbers : List ℕ = range_with_len 0 (length ops) in
      let at : get_or numbers i 0 ≡ i = omega (arith, get_or-range_with_len 0 (length ops) i 0 within) in
      let one = counted (lacks_counterpart ops others) numbers i 0 (omega (arith, length-range_with_len 0 (length ops)))
      (ap (lacks_counterpart ops others) at ∙ lacks) in
      let all : count_by (lacks_counterpart ops others) numbers ≡ 0 = none in
      omega (arith, one, all)

  -- as many of the first operations as come before an operation that has a counterpart have one
  few_before : (i : ℕ) → i < length ops → are_alike op (op_at ops i) ≡ true → count_like op (take i ops) < count_like op others
  few_before i within alike =
      let here = count_same op (op_at ops i) (take i ops) alike in
      let there = count_same op (op_at ops i) others alike in
      elim (cases_lt (count_like op (take i ops)) (count_like op others)) [
        | inl few ↦ few
        | inr many ↦ absurd (has_one i within
            (le-leb (count_like (op_at ops i) others) (count_like (op_at ops i) (take i ops)) (omega (arith, here, there, many))))
      ]

  few_of_first : (n : ℕ) → n ≤ length ops → count_like op (take n ops) ≤ count_like op others
  few_of_first zero within = omega arith
  few_of_first (suc n) within =
      let next : suc n ≡ n + 1 = omega arith in
      let same : count_like op (take (suc n) ops) ≡ count_like op (take (n + 1) ops) = ap (λ m. count_like op (take m ops)) next in
      by_bool (are_alike op (op_at ops n))
      (λ t. omega (arith, same, one_more op ops n (omega arith) t, few_before n (omega arith) t))
      (λ f. omega (arith, same, no_more op ops n (omega arith) f, few_of_first n (omega arith)))

  few : count_like op ops ≤ count_like op others
  few = subst (λ (os : List Op). count_like op os ≤ count_like op others) (take-length ops) (few_of_first (length ops) (omega arith))

-- where there are as many of each label, none lacks a counterpart
module _ (ops others : List Op) (same : (op : Op) → count_like op ops ≡ count_like op others) where
  has_counterpart : (i : ℕ) → i < length ops → lacks_counterpart ops others i ≡ false
  has_counterpart i within = by_bool (lacks_counterpart ops others i)
      (λ t. absurd (let few = leb-true (count_like (op_at ops i) others) (count_like (op_at ops i) (take i ops)) t in
      let more = one_counted (op_at ops i) ops i within (alike_itself (op_at ops i)) in
      omega (arith, few, more, same (op_at ops i))))
      (λ f. f)

  abbrev numbers : List ℕ
  numbers = range_with_len 0 (length ops)

  none_of_first : (n : ℕ) → n ≤ length ops → count_by (lacks_counterpart ops others) (take n numbers) ≡ 0
  none_of_first zero within = omega arith
  none_of_first (suc n) within =
      let next : suc n ≡ n + 1 = omega arith in
      let at : get_or numbers n 0 ≡ n = omega (arith, get_or-range_with_len 0 (length ops) n 0 (omega arith)) in
      ap (λ m. count_by (lacks_counterpart ops others) (take m numbers)) next
      ∙ count_by_more_no (lacks_counterpart ops others) numbers n 0 (omega (arith, length-range_with_len 0 (length ops)))
      (ap (lacks_counterpart ops others) at ∙ has_counterpart n (omega arith))
      ∙ none_of_first n (omega arith)

  none_lacks : lacking ops others ≡ 0
  none_lacks =
      ap (count_by (lacks_counterpart ops others)) (sym (take-length numbers))
      ∙ ap (λ m. count_by (lacks_counterpart ops others) (take m numbers)) (length-range_with_len 0 (length ops))
      ∙ none_of_first (length ops) (omega arith)

pub as_many : (block ops : List Op) → has_operations block ops ≡ true → AreItsOperations block ops
as_many block ops has op =
    let left : ℕ = lacking block ops in
    let added : ℕ = lacking ops block in
    let none : left ≡ 0 = eqb-true left 0 (and_parts (left == 0) (added == 0) has).0 in
    let none_too : added ≡ 0 = eqb-true added 0 (and_parts (left == 0) (added == 0) has).1 in
    omega (arith, few block ops none op, few ops block none_too op)

pub not_as_many : (block ops : List Op) → has_operations block ops ≡ false → AreItsOperations block ops → ⊥
not_as_many block ops hasnt same =
    let left : lacking block ops ≡ 0 = none_lacks block ops (λ op. sym (same op)) in
    let added : lacking ops block ≡ 0 = none_lacks ops block same in
    let has : has_operations block ops ≡ true = ap₂ (λ (n m : ℕ). (n == 0) && (m == 0)) left added in
    absurd (true≢false (sym has ∙ hasnt))
