-- What the code knows once an operand is written, and where one is not short.
use Rattle.std.proofs.Common.{◌≡◌, ◌+◌, ◌-◌, ◌≤◌, ◌∙◌, ℕ, Option, None, Some, List, ◌++◌, Any, IsSomeAnd, drop, length, slice_get, refl, arith, length-append}
use Rattle.std.proofs.lemmas.List.{drop-drop, drop_at, length-drop}
use Rattle.std.proofs.lemmas.Option.{get_or_from_slice_get, slice_get_within}

-- what stands from a place on stays, where something is written before it
pub kept : (xs ys text : List ℕ) (start end : ℕ) → start ≤ end → end ≤ length ys → length xs ≡ length ys
    → drop start xs ≡ text ++ drop end ys → drop end xs ≡ drop end ys
kept xs ys text start end lo hi same written =
    let whole : length (drop start xs) ≡ length text + length (drop end ys) = rw written (length-append text (drop end ys)) in
    let long : length text ≡ end - start = omega (arith, whole, length-drop start xs, length-drop end ys) in
    let back : end ≡ start + (end - start) = omega arith in
    let cut : drop end xs ≡ drop (end - start) (drop start xs) = rw (drop-drop (end - start) start xs, ← back) refl in
    cut ∙ rw written (drop_at text (drop end ys) (end - start) long)

-- a property of the number at a place is one of some number
any_of : (P : ℕ → Type 0) (ns : List ℕ) (k : ℕ) (o : Option ℕ) → slice_get ns k ≡ o → IsSomeAnd o P → Any P ns
any_of P ns k None e p = absurd p
any_of P ns k (Some n) e p = (k, n, slice_get_within ns k n e, get_or_from_slice_get ns k n n e, p)

pub any_at : (P : ℕ → Type 0) (ns : List ℕ) (k : ℕ) → IsSomeAnd (slice_get ns k) P → Any P ns
any_at P ns k h = any_of P ns k (slice_get ns k) refl h
