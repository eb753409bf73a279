-- Colours by the order of issue, and those of operations: what a pairing keeps of the ones it keeps of the others.
use Rattle.iloc_validation.proofs.Common.{◌≡◌, ℕ, ◌<◌, List, length, IfSome, slice_index, Some, None, Option, option_map, sym, refl, ap, ◌∙◌, arith, Reg, source_earlier, Source, Result, Start, sources_from_lists, reading_at, result_in, sources_at, sources_of, Sources, AreColoured, ArePassed, ArePassedTo, HaveColours, IsBelow, IsOrderOf, ReadAlike, by_numbers, Coloured, Sides, IsUnder}
use Rattle.iloc_validation.specs.declared.colours.issue_order.IssueOrder.{IssueOrder}
use Rattle.iloc_validation.specs.Steps.Colours.{AreBelow}
use Rattle.iloc_validation.proofs.Renumbered.{mapped_twice}
use Rattle.iloc_validation.proofs.OtherNumbers.{by_numbers_of}

by_numbers_twice : (f g : ℕ → ℕ) (s : Sources) → by_numbers f (by_numbers g s) ≡ by_numbers (λ k. f (g k)) s
by_numbers_twice f g s = grind (arith, mapped_twice)

-- what an operation of a block reads stands before it

result_before : (i : ℕ) (s : Source) → ((j : ℕ) → s ≡ Result j → j < i) → IfSome (result_in s) (λ j. j < i)
result_before i (Start r) earlier = tt
result_before i (Result j) earlier = earlier j refl

below_of : (i : ℕ) (f : Reg → Option ℕ) → ((r : Reg) → IfSome (f r) (λ j. j < i)) → (rs : List Reg) → IsBelow i (sources_of f rs)
below_of i f before rs = grind arith

module _ (sides : Sides) (order : IssueOrder) (is : IsOrderOf sides.readings.items order) where
  below_given : AreBelow sides.givens.items
  below_given = grind (arith, below_of, result_before, source_earlier)

  below_read : AreBelow order.sources.items
  below_read p within = (is.each p (rw is.size at within)).below

  module _ (origin partner : ℕ → ℕ) (under : IsUnder sides origin partner) where
    abbrev to : ℕ → ℕ
    to p = origin (slice_index order.ops.items p)

    abbrev from : ℕ → ℕ
    from i = slice_index order.places.items (partner i)

    known : (p : ℕ) → p < length order.ops.items → slice_index order.ops.items p < length sides.schedule.now.ops
    known p within = grind arith

    placed : (k : ℕ) → k < length sides.schedule.now.ops → (slice_index order.places.items k < length order.ops.items)
        × (slice_index order.ops.items (slice_index order.places.items k) ≡ k)
    placed k within = grind arith

    reads_alike : (k : ℕ) → k < length sides.schedule.now.ops
        → by_numbers origin (reading_at sides.readings.items k).sources ≡ sources_at sides.givens.items (origin k)
    reads_alike k here = grind (arith, by_numbers_of, option_map, sources_from_lists)

    alike : ReadAlike sides.givens.items order.sources.items to from
    alike = record {
      leads = λ p within.
          rw sides.given_count (under.paired.there (slice_index order.ops.items p) (known p (rw is.size at within)));
      back = λ p within.
          let inside : p < length order.ops.items = rw is.size at within in
          ap (slice_index order.places.items) (under.paired.back (slice_index order.ops.items p) (known p inside))
          ∙ (is.leads p inside).1;
      leads_too = λ i within.
          rw is.size (placed (partner i) (under.paired.there_too i (rw sides.given_count at within))).0;
      back_too = λ i within.
          let inside : i < length sides.block.items = rw sides.given_count at within in
          ap origin (placed (partner i) (under.paired.there_too i inside)).1 ∙ under.paired.back_too i inside;
      reads = λ p within.
          let inside : p < length order.ops.items = rw is.size at within in
          sym (by_numbers_twice origin (slice_index order.ops.items) (sources_at order.sources.items p))
          ∙ ap (by_numbers origin) (is.each p inside).reads
          ∙ reads_alike (slice_index order.ops.items p) (known p inside);
    }

    module _ (here there : List ℕ) (kept : HaveColours (length sides.schedule.now.ops) origin here there)
        (start : Coloured) (same : start.here.items ≡ here) (each : (p : ℕ) → p < length order.ops.items
        → slice_index start.there.items p ≡ slice_index there (slice_index order.ops.items p)) where
      first : HaveColours (length order.sources.items) to start.here.items start.there.items
      first = grind (arith, known)

      pub none_under : ArePassed sides.givens.items order.sources.items start None → ⊥
      none_under none = none below_given below_read to from alike first

      pub kept_under : (last : Coloured) (back : List ℕ) → ArePassedTo sides.givens.items order.sources.items start last
          → ((k : ℕ) → k < length order.places.items
          → slice_index back k ≡ slice_index last.there.items (slice_index order.places.items k))
          → (k : ℕ) → k < length sides.schedule.now.ops → slice_index back k ≡ slice_index last.here.items (origin k)
      kept_under last back passed moved k within =
          let all : length order.places.items ≡ length sides.readings.items = is.all in
          let size : length sides.readings.items ≡ length sides.schedule.now.ops = sides.reading_count in
          let there : slice_index order.places.items k < length order.sources.items = rw is.size (placed k within).0 in
          moved k (omega arith)
          ∙ passed.kept below_given below_read to from alike first (slice_index order.places.items k) there
          ∙ ap (λ j. slice_index last.here.items (origin j)) (placed k within).1

module _ (sides : Sides) (order : IssueOrder) (is : IsOrderOf sides.readings.items order) (here there : List ℕ)
    (start : Coloured) (same : start.here.items ≡ here) (each : (p : ℕ) → p < length order.ops.items
    → slice_index start.there.items p ≡ slice_index there (slice_index order.ops.items p)) where
  pub none_coloured : ArePassed sides.givens.items order.sources.items start None → AreColoured sides here there None
  none_coloured none = λ origin partner under kept.
      none_under sides order is origin partner under here there kept start same each none

  pub all_coloured : (last new : Coloured) → ArePassedTo sides.givens.items order.sources.items start last
      → new.here.items ≡ last.here.items → length new.there.items ≡ length order.places.items
      → ((k : ℕ) → k < length order.places.items
      → slice_index new.there.items k ≡ slice_index last.there.items (slice_index order.places.items k))
      → AreColoured sides here there (Some new)
  all_coloured last new passed same_here size moved = record {
    here_size = ap length same_here ∙ passed.here_size ∙ sides.given_count;
    there_size = size ∙ is.all ∙ sides.reading_count;
    kept = λ origin partner under kept k within.
        kept_under sides order is origin partner under here there kept start same each last
        new.there.items passed moved k within
        ∙ ap (λ cs. slice_index cs (origin k)) (sym same_here);
  }
