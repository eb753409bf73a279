-- Lists in which no place differs.
use Rattle.std.proofs.Common.{◌≡◌, ◌<◌, ℕ, suc, ◌*◌, ◌/◌, List, [], ◌∷◌, length, get_or, max, ℤ, pos, arith, refl, sym, ap, ◌∙◌}
use Rattle.std.specs.Prelude.{slice_get}
use Rattle.std.proofs.lemmas.Bool.{cases_lt}
use Rattle.std.proofs.lemmas.List.{ext_get_or}
use Rattle.std.proofs.lemmas.Option.{slice_get_past}
use Rattle.iloc_meaning.specs.Memory.{word_at}

same_gets : (xs ys : List ℤ) → ((k : ℕ) → slice_get xs k ≡ slice_get ys k) → xs ≡ ys
same_gets [] [] same = refl
same_gets [] (y ∷ ys) same = absurd (cc (same 0))
same_gets (x ∷ xs) [] same = absurd (cc (same 0))
same_gets (x ∷ xs) (y ∷ ys) same =
    let first : x ≡ y = cc (same 0) in
    let rest : xs ≡ ys = same_gets xs ys (λ k. same (suc k)) in
    cc

-- below the longer one's end
pub same_outputs : (xs ys : List ℤ) (n : ℕ) → n ≡ max (length xs) (length ys)
    → ((k : ℕ) → k < n → slice_get xs k ≡ slice_get ys k) → xs ≡ ys
same_outputs xs ys n count same = grind (arith, cases_lt, same_gets, slice_get_past)

-- at each address
pub same_memories : (xs ys : List ℤ) (n : ℕ) → n ≡ length xs → length xs ≡ length ys
    → ((a : ℕ) → a < 4 * n → word_at xs a ≡ word_at ys a) → xs ≡ ys
same_memories xs ys n count size same = ext_get_or (pos 0) xs ys size (λ i within.
    let number : 4 * i / 4 ≡ i = omega arith in
    ap (λ j. get_or xs j (pos 0)) (sym number) ∙ same (4 * i) (omega arith) ∙ ap (λ j. get_or ys j (pos 0)) number)
