-- Where a pairing keeps colours, a pass keeps them, and their sums are one.
use Rattle.iloc_validation.proofs.Common.{◌≡◌, ℕ, zero, suc, ◌%◌, ◌^◌, ◌<◌, List, length, IfSome, slice_index, Some, None, sum_by, Option, option_map, sym, refl, ap, ◌∙◌, subst, arith, sources_at, Sources, AreBackwards, AreForwards, ArePassed, ArePassedTo, HaveColours, IsBelow, ReadAlike, mixed, told, with_told, by_numbers, Coloured}
use Rattle.iloc_validation.specs.Steps.Colours.{AreBelow}
use Rattle.iloc_validation.proofs.ColourSums.{values_paired}
use Rattle.iloc_validation.proofs.BackwardColours.{backwards_keep}

-- A pass forwards keeps colours: what operations read, those that they are paired with read too.
module _ (f g : ℕ → ℕ) where
  module _ (to : ℕ → ℕ) (p q : ℕ) (same : (j : ℕ) → j < p → to j < q → f j ≡ g (to j)) where
    told_paired : (o : Option ℕ) → IfSome o (λ j. j < p) → IfSome (option_map to o) (λ j. j < q)
        → told f o ≡ told g (option_map to o)
    told_paired None below below_too = refl
    told_paired (Some j) below below_too = same j below below_too

    with_told_paired : (c : ℕ) (s : Sources) → IsBelow p s → IsBelow q (by_numbers to s)
        → with_told f c s ≡ with_told g c (by_numbers to s)
    with_told_paired c s below below_too = grind (arith, told_paired)

module _ (here there : List Sources) (to from : ℕ → ℕ) (alike : ReadAlike here there to from) (below : AreBelow here)
    (below_too : AreBelow there) (old new old' new' : List ℕ) (made : AreForwards here old new)
    (made_too : AreForwards there old' new') (kept : HaveColours (length there) to old old') where
  -- by the number in the block, below which all that is read is
  step : (n p : ℕ) → p < length there → to p < n → slice_index new' p ≡ slice_index new (to p)
  step zero p within under = absurd (omega arith)
  step (suc n) p within under =
      let inside : to p < length here = alike.leads p within in
      let reads : by_numbers to (sources_at there p) ≡ sources_at here (to p) = alike.reads p within in
      made_too p within (below_too p within)
      ∙ ap (λ c. with_told (slice_index new') c (sources_at there p)) (kept p within)
      ∙ with_told_paired (slice_index new') (slice_index new) to p (to p)
      (λ j before before_too. step n j (omega arith) (omega arith))
      (slice_index old (to p)) (sources_at there p) (below_too p within)
      (subst (IsBelow (to p)) (sym reads) (below (to p) inside))
      ∙ ap (with_told (slice_index new) (slice_index old (to p))) reads
      ∙ sym (made (to p) inside (below (to p) inside))

  forwards_keep : HaveColours (length there) to new new'
  forwards_keep p within = step (suc (to p)) p within (omega arith)

abbrev total : List ℕ → ℕ
total colours = sum_by (λ c. mixed c 1) colours

module _ (here there : List Sources) where
  -- colours that a pairing keeps have one sum
  pub one_sum : (to from : ℕ → ℕ) → ReadAlike here there to from → (colours : Coloured)
      → length colours.here.items ≡ length here → length colours.there.items ≡ length there
      → HaveColours (length there) to colours.here.items colours.there.items
      → total colours.here.items % 2 ^ 64 ≡ total colours.there.items % 2 ^ 64
  one_sum to from alike colours size size_too kept =
      ap (λ n. n % 2 ^ 64)
      (values_paired (length here) (length there) to from alike.leads alike.back alike.leads_too alike.back_too
      (λ c. mixed c 1) colours.here.items colours.there.items size size_too kept)

  pub then_passed : (old next : Coloured) (last : Option Coloured) → ArePassedTo here there old next
      → ArePassed here there next last → ArePassed here there old last
  then_passed old next None first more = λ below below_too to from alike kept.
      more below below_too to from alike (first.kept below below_too to from alike kept)
  then_passed old next (Some last) first more = grind arith

  -- where the sums differ, no pairing keeps the colours
  pub differing : (old : Coloured) → length old.here.items ≡ length here → length old.there.items ≡ length there
      → (total old.here.items % 2 ^ 64 ≡ total old.there.items % 2 ^ 64 → ⊥) → ArePassed here there old None
  differing old size size_too differ = λ below below_too to from alike kept.
      differ (one_sum to from alike old size size_too kept)

  pub forwards_passed : (old new : Coloured) → length new.here.items ≡ length here → length new.there.items ≡ length there
      → AreForwards here old.here.items new.here.items → AreForwards there old.there.items new.there.items
      → ArePassedTo here there old new
  forwards_passed old new size size_too made made_too = record {
    here_size = size;
    there_size = size_too;
    kept = λ below below_too to from alike kept. forwards_keep here there to from alike below below_too old.here.items
        new.here.items old.there.items new.there.items made made_too kept;
  }

  pub backwards_passed : (old new : Coloured) → length new.here.items ≡ length here → length new.there.items ≡ length there
      → AreBackwards here old.here.items new.here.items → AreBackwards there old.there.items new.there.items
      → ArePassedTo here there old new
  backwards_passed old new size size_too made made_too = record {
    here_size = size;
    there_size = size_too;
    kept = λ below below_too to from alike kept. backwards_keep here there to from alike below below_too old.here.items
        new.here.items old.there.items new.there.items made made_too kept;
  }
