-- What bytes begin with, comes next there.
use Rattle.iloc_lint.proofs.Common.{ℕ, suc, ◌-◌, ◌<◌, List, ◌∷◌, length, take, drop, sym, ap, ◌∙◌, inr, arith, take-append-drop}
use Rattle.std.proofs.Math.Seq.{drop-drop}
use Rattle.iloc_lint.specs.Row.{IsLeft, IsNext}
use Rattle.iloc_lint.proofs.PartsAlong.{rest_of}

pub comes_next : (rest : List ℕ) (n : ℕ) → 0 < n → 0 < length rest → IsNext rest (take n rest)
comes_next (x ∷ xs) (suc n) some more =
    inr (λ none. absurd cc, drop n xs, ap (λ (ys : List ℕ). x ∷ ys) (sym (take-append-drop n xs)))
comes_next rest n some more = absurd (omega arith)

-- what is left of all but the first n is left of all
pub left_after : (bytes rest : List ℕ) (n : ℕ) → IsLeft (take (length bytes - n) (drop n bytes)) rest → IsLeft bytes rest
left_after bytes rest n left =
    (_, left.1 ∙ ap (λ (b : List ℕ). drop left.0 b) (rest_of n bytes) ∙ drop-drop left.0 n bytes)
