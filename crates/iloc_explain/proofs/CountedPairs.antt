-- Which pairs count by address: `Counted::counts`.
use Rattle.iloc_explain.proofs.Common.{◌≡◌, ℕ, Bool, false, not, ◌&&◌, List, Option, sym, refl, ◌∙◌, Op, op_at, is_store, kind}
use Rattle.iloc_rules.specs.Apart.{address_at, apart_if_both, by_address}
use Rattle.iloc_rules.specs.declared.word.Word.{Word}

-- two operations that aren't both stores count unless they are apart
pub apart_counts : (ops : List Op) (i j : ℕ) (a b : Op) (v w : Option Word) (stores apart : Bool) → a ≡ op_at ops i
    → b ≡ op_at ops j → stores ≡ (is_store (kind a) && is_store (kind b)) → stores ≡ false → v ≡ address_at ops i
    → w ≡ address_at ops j → apart ≡ apart_if_both v w → not apart ≡ by_address ops i j
apart_counts ops i j a b v w stores apart first second both none at_first at_second is =
    let alone : (is_store (kind (op_at ops i)) && is_store (kind (op_at ops j))) ≡ false =
    rw (first, second) at (sym both ∙ none) in
    rw (alone, is, at_first, at_second) refl
