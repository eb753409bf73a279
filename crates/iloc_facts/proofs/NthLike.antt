-- Of the operations like one the one that has so many before it: chains of them, and counterparts.
use Rattle.iloc_facts.proofs.Common.{◌≡◌, ℕ, ◌+◌, ◌<◌, ◌≤◌, true, false, List, length, get_or, take, is_none, IfSome, IfNone, slice_set, Some, None, count_by, Option, sym, refl, ap, ◌∙◌, subst, inl, inr, true≢false, arith, length-set, get_or-set_other, get_or-set_same, le-leb, cases_eq, lt-leb, Op, by_bool, op_at, SetsLike, number_like, IsShort, are_alike, count_like, lacking, lacks_counterpart, AreChained, AreCounterparts, IsCounterpart, IsNth, noted_at, ByLabel}
use Rattle.std.specs.List.{range_with_len}
use Rattle.std.proofs.Math.Seq.{take-length}
use Rattle.std.proofs.lemmas.List.FromFn.{length-range_with_len, get_or-range_with_len}
use Rattle.iloc_facts.specs.declared.counterparts.chains.Chains.{Chains}
use Rattle.iloc_facts.proofs.AlikeOps.{alike_itself, alike_same, alike_back, count_same}
use Rattle.iloc_facts.proofs.CountsLike.{counts_same, one_more, no_more, one_counted}

-- where two operations are alike, the same is true of the other
nth_like : (ops : List Op) (a b : Op) (n : ℕ) (o : Option ℕ) → are_alike a b ≡ true → IsNth ops a n o → IsNth ops b n o
nth_like ops a b n None same nth = subst (λ m. m ≤ n) (count_same a b ops same) nth
nth_like ops a b n (Some k) same nth =
    (nth.0, sym (alike_same a b (op_at ops k) same) ∙ nth.1, sym (count_same a b (take k ops) same) ∙ nth.2)

not_back : (a b : Op) → are_alike a b ≡ false → are_alike b a ≡ false
not_back a b other = by_bool (are_alike b a) (λ t. absurd (true≢false (sym (alike_back b a t) ∙ other))) (λ f. f)

-- what waits, at another number
moved : (ops : List Op) (op : Op) (n m : ℕ) (o : Option ℕ) → n ≡ m → IsNth ops op n o → IsNth ops op m o
moved ops op n m o same nth = subst (λ x. IsNth ops op x o) same nth

-- Chains, made from the end

pub none_chained : (ops : List Op) (k : ℕ) (chains : Chains) → k ≡ length ops → length chains.next.items ≡ length ops
    → ((op : Op) → number_like chains.waiting op ≡ None) → AreChained ops k chains
none_chained ops k chains end size none = record {
  size = size;
  first = λ op.
      let few : count_like op ops ≤ count_like op (take k ops) =
      rw (ap (λ n. take n ops) end ∙ take-length ops) (omega arith) in
      subst (IsNth ops op (count_like op (take k ops))) (sym (none op)) few;
  next = λ j past within. absurd (omega arith);
}

pub chained_at : (ops : List Op) (n k : ℕ) (chains : Chains) → AreChained ops n chains → n ≡ k → AreChained ops k chains
chained_at ops n k chains are same = subst (λ m. AreChained ops m chains) same are

pub put_first_chained : (ops : List Op) (k : ℕ) (old new : Chains) (o : Option ℕ) → k < length ops → AreChained ops (k + 1) old
    → o ≡ number_like old.waiting (op_at ops k) → new.next.items ≡ slice_set old.next.items k o
    → SetsLike old.waiting new.waiting (op_at ops k) (Some k) → AreChained ops k new
put_first_chained ops k old new o within are first_is noted sets = record {
  size = ap length noted ∙ length-set old.next.items k o ∙ are.size;
  first = λ op.
      by_bool (are_alike (op_at ops k) op)
      (λ t.
      let now : number_like new.waiting op ≡ Some k = sets op ∙ rw t refl in
      subst (IsNth ops op (count_like op (take k ops))) (sym now) (within, alike_back (op_at ops k) op t, refl))
      (λ t.
      let now : number_like new.waiting op ≡ number_like old.waiting op = sets op ∙ rw t refl in
      subst (IsNth ops op (count_like op (take k ops))) (sym now)
      (moved ops op _ _ (number_like old.waiting op) (no_more op ops k within (not_back (op_at ops k) op t)) (are.first op)));
  next = λ j from inside. elim (cases_eq j k) [
    | inl here ↦
        let written : noted_at new.next.items k ≡ number_like old.waiting (op_at ops k) =
        ap (λ (xs : List (Option ℕ)). noted_at xs k) noted
        ∙ get_or-set_same old.next.items k o None (omega (arith, are.size)) ∙ first_is in
        let next : IsNth ops (op_at ops k) (count_like (op_at ops k) (take k ops) + 1) (noted_at new.next.items k) =
        subst (IsNth ops (op_at ops k) (count_like (op_at ops k) (take k ops) + 1)) (sym written)
        (moved ops (op_at ops k) _ _ (number_like old.waiting (op_at ops k))
        (one_more (op_at ops k) ops k within (alike_itself (op_at ops k))) (are.first (op_at ops k))) in
        subst (λ n. IsNth ops (op_at ops n) (count_like (op_at ops n) (take n ops) + 1) (noted_at new.next.items n)) (sym here) next
    | inr other ↦
        let kept : noted_at new.next.items j ≡ noted_at old.next.items j =
        ap (λ (xs : List (Option ℕ)). noted_at xs j) noted ∙ get_or-set_other old.next.items k j o None other in
        subst (IsNth ops (op_at ops j) (count_like (op_at ops j) (take j ops) + 1)) (sym kept) (are.next j (omega arith) inside)
  ];
}

-- Counterparts: one more operation takes the first that waits of those like it

grown : (others : List Op) (op : Op) (n m : ℕ) (o : Option ℕ) → count_like op others ≤ n → n ≤ m → IsNth others op n o
    → IsNth others op m o
grown others op n m None few more nth = omega arith
grown others op n m (Some k) few more nth =
    let one : count_like op (take k others) + 1 ≤ count_like op others = one_counted op others k nth.0 nth.1 in
    let here : count_like op (take k others) ≡ n = nth.2 in
    absurd (omega arith)

module _ (ops others : List Op) (i : ℕ) (within : i < length ops) (old : ByLabel)
    (waits : (op : Op) → IsNth others op (count_like op (take i ops)) (number_like old op)) where
  abbrev it : Op
  it = op_at ops i

  pub none_left : number_like old it ≡ None → (op : Op) → IsNth others op (count_like op (take (i + 1) ops)) (number_like old op)
  none_left none op =
      by_bool (are_alike op it)
      (λ t.
      let few : count_like it others ≤ count_like it (take i ops) =
      subst (IsNth others it (count_like it (take i ops))) none (waits it) in
      let here = count_same op it others t in
      let there = count_same op it (take i ops) t in
      let more = one_more op ops i within t in
      grown others op (count_like op (take i ops)) (count_like op (take (i + 1) ops)) (number_like old op)
      (omega (arith, few, here, there)) (omega (arith, more)) (waits op))
      (λ t. moved others op _ _ (number_like old op) (sym (no_more op ops i within t)) (waits op))

  pub one_taken : (new : ByLabel) (k : ℕ) (next : Option ℕ) → number_like old it ≡ Some k
      → IsNth others (op_at others k) (count_like (op_at others k) (take k others) + 1) next → SetsLike old new it next
      → (op : Op) → IsNth others op (count_like op (take (i + 1) ops)) (number_like new op)
  one_taken new k next is after sets op =
      let first : IsNth others it (count_like it (take i ops)) (Some k) =
      subst (IsNth others it (count_like it (take i ops))) is (waits it) in
      by_bool (are_alike it op)
      (λ t.
      let now : number_like new op ≡ next = sets op ∙ rw t refl in
      let like : are_alike (op_at others k) op ≡ true = sym (alike_same it (op_at others k) op first.1) ∙ t in
      let count = count_same it (op_at others k) (take k others) first.1 in
      let count_too = count_same it op (take i ops) t in
      let more = one_more op ops i within (alike_back it op t) in
      let place : count_like it (take k others) ≡ count_like it (take i ops) = first.2 in
      subst (IsNth others op (count_like op (take (i + 1) ops))) (sym now)
      (moved others op _ _ next (omega (arith, count, count_too, more, place))
      (nth_like others (op_at others k) op (count_like (op_at others k) (take k others) + 1) next like after)))
      (λ t.
      let now : number_like new op ≡ number_like old op = sets op ∙ rw t refl in
      subst (IsNth others op (count_like op (take (i + 1) ops))) (sym now)
      (moved others op _ _ (number_like old op) (sym (no_more op ops i within (not_back it op t))) (waits op)))

pub taken : (ops others : List Op) (i : ℕ) → i < length ops → (old new : Chains)
    → ((op : Op) → IsNth others op (count_like op (take i ops)) (number_like old.waiting op))
    → ((k : ℕ) → k < length others → IsNth others (op_at others k) (count_like (op_at others k) (take k others) + 1)
    (noted_at old.next.items k))
    → (o : Option ℕ) → o ≡ number_like old.waiting (op_at ops i) → IfNone o (new.waiting ≡ old.waiting)
    → IfSome o (λ k. SetsLike old.waiting new.waiting (op_at ops i) (noted_at old.next.items k))
    → (op : Op) → IsNth others op (count_like op (take (i + 1) ops)) (number_like new.waiting op)
taken ops others i within old new waits nexts None is none some op =
    rw none
    (none_left ops others i within old.waiting waits (sym is) op)
taken ops others i within old new waits nexts (Some k) is none some op =
    let first : IsNth others (op_at ops i) (count_like (op_at ops i) (take i ops)) (Some k) =
    subst (IsNth others (op_at ops i) (count_like (op_at ops i) (take i ops))) (sym is) (waits (op_at ops i)) in
    one_taken ops others i within old.waiting waits new.waiting k (noted_at old.next.items k) (sym is) (nexts k first.0) some op

-- Those that have no counterpart

lacks_is : (ops others : List Op) (i : ℕ) (o : Option ℕ) → IsCounterpart ops others i o → is_none o ≡ lacks_counterpart ops others i
lacks_is ops others i None few =
    sym (le-leb (count_like (op_at ops i) others) (count_like (op_at ops i) (take i ops)) few)
lacks_is ops others i (Some k) nth =
    let one = one_counted (op_at ops i) others k nth.0 nth.1 in
    let place : count_like (op_at ops i) (take k others) ≡ count_like (op_at ops i) (take i ops) = nth.2 in
    sym (lt-leb (count_like (op_at ops i) others) (count_like (op_at ops i) (take i ops)) (omega (arith, one, place)))

module _ (ops others : List Op) (counterparts : List (Option ℕ)) (are : AreCounterparts ops others counterparts) where
  pub lacking_is : count_by is_none counterparts ≡ lacking ops others
  lacking_is =
      counts_same is_none (lacks_counterpart ops others) counterparts (range_with_len 0 (length ops)) None 0
      (are.size ∙ sym (length-range_with_len 0 (length ops)))
      (λ i here.
      let within : i < length ops = omega (arith, are.size) in
      let at : get_or (range_with_len 0 (length ops)) i 0 ≡ i =
      omega (arith, get_or-range_with_len 0 (length ops) i 0 within) in
      lacks_is ops others i (noted_at counterparts i) (are.each i within) ∙ ap (lacks_counterpart ops others) (sym at))

  pub short_is : (i : ℕ) → i < length ops → noted_at counterparts i ≡ None → IsShort (op_at ops i) ops others
  short_is i within none =
      let few : count_like (op_at ops i) others ≤ count_like (op_at ops i) (take i ops) =
      subst (IsCounterpart ops others i) none (are.each i within) in
      let one = one_counted (op_at ops i) ops i within (alike_itself (op_at ops i)) in
      omega (arith, few, one)
