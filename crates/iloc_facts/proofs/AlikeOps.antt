-- Operations that differ in registers alone: the same label, the same counts, the same key.
use Rattle.iloc_facts.proofs.Common.{◌≡◌, ℕ, true, cond, ◌↔◌, List, IsTrue, count_by, Option, sym, refl, ap, ◌∙◌, arith, get, Decides, one_answer, Op, SetsLike, number_like, are_alike, count_like, label, label_key, ByLabel}
use Rattle.std.specs.Ordering.{eq_by_cmp}
use Rattle.iloc_ops.specs.contracts.op.OpPartialEq.TheImpl as of_ops
use Rattle.iloc_ops.specs.contracts.op.OpOrd.TheImpl as in_order
use Rattle.iloc_ops.specs.contracts.op.OpOrd.TheImpl.Laws.{matches_eq-law}
use Rattle.iloc_facts.proofs.LabelKeys.{one_label, same_key}
use Rattle.iloc_facts.proofs.SameOps.{op_same}

-- they are alike where the labels are the same
pub alike_test : (a b : Op) → IsTrue (are_alike a b) ↔ (label a ≡ label b)
alike_test a b = op_same (label a) (label b)

-- and so are the keys
pub keys_test : (a b : Op) → Decides ((of_ops.ghosts).eq (label_key a) (label_key b)) (label a ≡ label b)
keys_test a b = grind (arith, one_label, op_same, same_key)

pub alike_itself : (a : Op) → are_alike a a ≡ true
alike_itself a = (alike_test a a).1 refl

-- what is like one of them is like the other
pub alike_same : (a b c : Op) → are_alike a b ≡ true → are_alike a c ≡ are_alike b c
alike_same a b c same = ap (λ l. (of_ops.ghosts).eq l (label c)) ((alike_test a b).0 same)

pub count_same : (a b : Op) (ops : List Op) → are_alike a b ≡ true → count_like a ops ≡ count_like b ops
count_same a b ops same = ap (λ l. count_by (λ c. (of_ops.ghosts).eq l (label c)) ops) ((alike_test a b).0 same)

pub alike_back : (a b : Op) → are_alike a b ≡ true → are_alike b a ≡ true
alike_back a b same = (alike_test b a).1 (sym ((alike_test a b).0 same))

-- a key compares as equal to those of operations that are alike
pub key_is : (a b : Op) → eq_by_cmp (in_order.ghosts).cmp (label_key a) (label_key b) ≡ are_alike a b
key_is a b =
    sym (matches_eq-law (label_key a) (label_key b))
    ∙ one_answer ((of_ops.ghosts).eq (label_key a) (label_key b)) (are_alike a b) (keys_test a b) (alike_test a b)

-- a change at the key of an operation is one for those like it
pub sets_like : (old new : ByLabel) (op key : Op) (first : Option ℕ) → key ≡ label_key op
    → ((k : Op) → get (in_order.ghosts).cmp new.numbers k
    ≡ cond (eq_by_cmp (in_order.ghosts).cmp key k) first (get (in_order.ghosts).cmp old.numbers k))
    → SetsLike old new op first
sets_like old new op key first is each other =
    let test : eq_by_cmp (in_order.ghosts).cmp key (label_key other) ≡ are_alike op other =
    ap (λ k. eq_by_cmp (in_order.ghosts).cmp k (label_key other)) is ∙ key_is op other in
    each (label_key other) ∙ ap (λ b. cond b first (number_like old other)) test
