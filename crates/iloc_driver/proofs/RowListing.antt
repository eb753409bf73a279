-- What is proposed for blocks, listed block by block.
use Rattle.iloc_driver.proofs.Common.{◌≡◌, ℕ, ◌+◌, ◌<◌, Bool, List, [], ◌∷◌, ◌++◌, length, get_or, drop, All, zip, sym, refl, ap, ◌∙◌, subst, append_assoc, append-nil, arith, length-append, All-push, list_all, Block, AppendsEntry, finding_of, AreListedTo}
use Rattle.std.proofs.lemmas.List.{drop_more}
use Rattle.iloc_rows.specs.declared.proposal.Proposed.{Proposed}
use Rattle.iloc_driver.specs.Rows.{ListsRows}
use Rattle.iloc_driver.specs.declared.commands.Finding.{Finding}
use Rattle.iloc_driver.proofs.Entries.{entries_long, one_more}

-- two lists, the next of each and what is left
pub both_next : {A B : Type 0} (xs xs' : List A) (ys ys' : List B) (x : A) (y : B) → xs ≡ x ∷ xs' → ys ≡ y ∷ ys'
    → zip xs ys ≡ (x, y) ∷ zip xs' ys'
both_next xs xs' ys ys' x y first second = λ i. zip (first i) (second i)

-- a list from its next element on
pub next_left : {X : Type 0} (xs : List X) (i : ℕ) (x : X) → i < length xs → x ≡ get_or xs i x → drop i xs ≡ x ∷ drop (i + 1) xs
next_left xs i x within is = drop_more xs i x within ∙ ap (λ y. y ∷ drop (i + 1) xs) (sym is)

none_left : {A B : Type 0} (xs : List A) (ys : List B) → length xs ≡ 0 → zip xs ys ≡ []
none_left [] ys none = refl
none_left (x ∷ xs) ys none = absurd (omega arith)

module _ {X F : Type 0} (lists : ℕ → X → List ℕ → F → Type 0) (fits : F → Type 0) (opening : List ℕ) (all : List X) where
  -- nothing yet
  pub none_listed : (left : List X) (text : List ℕ) (found : List F) → left ≡ all → text ≡ opening → found ≡ []
      → AreListedTo lists fits opening all left text found
  none_listed left text found is empty none = grind (arith, append-nil)

  -- as many are done as something was found of
  done_long : (left : List X) (text : List ℕ) (found : List F) (so_far : AreListedTo lists fits opening all left text found)
      → length so_far.done ≡ length found
  done_long left text found so_far = grind (arith, entries_long)

  pub found_few : (left : List X) (text : List ℕ) (found : List F) → AreListedTo lists fits opening all left text found
      → length found + length left ≡ length all
  found_few left text found so_far =
      omega (
        arith,
        done_long left text found so_far,
        ap length so_far.split,
        length-append so_far.done left,
      )

  -- one more
  pub one_listed : (left rest : List X) (x : X) (text more : List ℕ) (found now : List F) (f : F) (n : ℕ) → left ≡ x ∷ rest
      → AreListedTo lists fits opening all left text found → n ≡ length found + 1 → AppendsEntry (lists n x) text more f → fits f
      → now ≡ found ++ f ∷ [] → AreListedTo lists fits opening all rest more now
  one_listed left rest x text more found now f n next so_far number adds small kept = record {
    done = so_far.done ++ x ∷ [];
    split = append_assoc so_far.done (x ∷ []) rest ∙ (ap (λ xs. so_far.done ++ xs) (sym next) ∙ so_far.split);
    grown = one_more lists so_far.done x n opening text more adds.entry [] found now f so_far.grown
        (omega (arith, done_long left text found so_far)) adds.right adds.added kept;
    small = subst (All fits) (sym kept) (All-push fits found f so_far.small small);
  }

-- all
pub all_listed : {F : Type 0} (lists : ℕ → Block × Proposed → List ℕ → F → Type 0) (fits : F → Type 0) (opening : List ℕ)
    (ending : List F → List ℕ) (passes : F → Bool) (blocks left : List Block) (proposals others : List Proposed)
    (text whole : List ℕ) (found : List F) (finding : Finding) → length proposals ≡ length blocks → length left ≡ 0
    → AreListedTo lists fits opening (zip blocks proposals) (zip left others) text found → whole ≡ text ++ ending found
    → finding ≡ finding_of (list_all passes found)
    → ListsRows lists opening ending passes blocks proposals finding whole
all_listed lists fits opening ending passes blocks left proposals others text whole found finding as_many none so_far ended is =
    grind (arith, append-nil, none_left)
