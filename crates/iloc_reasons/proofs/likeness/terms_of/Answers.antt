use Rattle.iloc_reasons.proofs.Common.{◌≡◌, ℕ, zero, suc, ◌+◌, ◌%◌, ◌^◌, ◌<◌, ◌≢◌, List, [], ◌∷◌, map, length, IfSome, slice_index, Some, None, Option, sym, refl, ap, ◌∙◌, ap₂, arith, used, Op, Reg, op_at, IsTable, issue_cycle, Latencies, Row, AreAlike, AreAllSources, AreSources, AreUnlike, label, given, read, reading_at, result_in, sources_at, sources_of, Reading, AreTerms, behind, label_number, mixed, opcode_number, value_of, values_of}
use Rattle.iloc_rules.specs.Renaming.{Source, source}
use Rattle.iloc_rules.specs.Renaming.Source.{Start, Result}
use Rattle.iloc_rules.proofs.Basics.Slots.{issued_early}
use Rattle.iloc_rules.proofs.Renamed.MentionedSources.{source_earlier}
use Rattle.iloc_facts.specs.declared.reading.sources.Sources.{Sources}
use Rattle.iloc_facts.proofs.Issues.{numbers_from_issued}
use Rattle.iloc_facts.proofs.LabelKeys.{same_constant, same_opcode}
use Rattle.iloc_facts.proofs.ReadValues.{read_in}
use Rattle.iloc_reasons.specs.declared.terms.Values.TheVariants.{One, Two}
use Rattle.iloc_reasons.proofs.likeness.terms_of.Goals as goal

-- Operations that are alike to every depth have one term.
labels_number : (a b : Op) → label a ≡ label b → label_number a ≡ label_number b
labels_number a b same = ap₂ (λ o c. mixed (opcode_number o) c) (same_opcode a b same) (same_constant a b same)

reads_at : (readings : List Reading) (k : ℕ)
    → sources_at (map (λ (r : Reading). r.sources) readings) k ≡ (reading_at readings k).sources
reads_at [] k = refl
reads_at (r ∷ rs) zero = refl
reads_at (r ∷ rs) (suc k) = reads_at rs k

result_before : (i n m : ℕ) → i < suc n → i < m → (s : Source) → ((j : ℕ) → s ≡ Result j → j < i)
    → IfSome (result_in s) (λ j. (j < n) × (j < m))
result_before i n m next inside (Start r) earlier = tt
result_before i n m next inside (Result j) earlier =
    let before : j < i = earlier j refl in
    (omega arith, omega arith)

some_of : (o : Option ℕ) (m : ℕ) → ((j : ℕ) → o ≡ Some j → j < m) → IfSome o (λ j. j < m)
some_of None m each = tt
some_of (Some j) m each = each j refl

module _ (lat : Latencies) (block ops : List Op) (rows : List Row) (table : IsTable ops rows) (givens reads : List Sources)
    (each_given : (i : ℕ) → i < length block → sources_at givens i ≡ sources_of (given block i) (used (op_at block i)))
    (each_read : (k : ℕ) → k < length ops
    → sources_at reads k ≡ sources_of (read lat ops rows (issue_cycle rows k)) (used (op_at ops k)))
    (here there : List ℕ) (terms_here : AreTerms block givens here) (terms_there : AreTerms ops reads there) where
  abbrev Same : ℕ → Type 0
  Same n = (i k : ℕ) → i < n → i < length block → k < length ops → AreAlike lat block ops rows n i k
      → slice_index here i ≡ slice_index there k

  same_value : (n : ℕ) → Same n → (a b : Option ℕ) → IfSome a (λ i. (i < n) × (i < length block))
      → IfSome b (λ k. k < length ops) → AreSources (AreAlike lat block ops rows n) a b → value_of here a ≡ value_of there b
  same_value n same None None before inside alike = refl
  same_value n same None (Some k) before inside alike = absurd alike
  same_value n same (Some i) None before inside alike = absurd alike
  same_value n same (Some i) (Some k) before inside alike =
      ap (λ t. (t + 1) % 2 ^ 64) (same i k before.0 before.1 inside alike)

  same_values : (n : ℕ) → Same n → (f g : Reg → Option ℕ) → ((r : Reg) → IfSome (f r) (λ i. (i < n) × (i < length block)))
      → ((r : Reg) → IfSome (g r) (λ k. k < length ops)) → (rs ss : List Reg)
      → AreAllSources (AreAlike lat block ops rows n) (map f rs) (map g ss)
      → values_of here (sources_of f rs) ≡ values_of there (sources_of g ss)
  same_values n same f g before inside [] [] alike = refl
  same_values n same f g before inside [] (s ∷ ss) alike = absurd alike
  same_values n same f g before inside (r ∷ rs) [] alike = absurd alike
  same_values n same f g before inside (r ∷ []) (s ∷ []) alike =
      ap One (same_value n same (f r) (g s) (before r) (inside s) alike.0)
  same_values n same f g before inside (r ∷ []) (s ∷ t ∷ ss) alike = absurd alike.1
  same_values n same f g before inside (r ∷ q ∷ rs) (s ∷ []) alike = absurd alike.1
  same_values n same f g before inside (r ∷ q ∷ rs) (s ∷ t ∷ ss) alike =
      ap₂ Two (same_value n same (f r) (g s) (before r) (inside s) alike.0)
      (same_value n same (f q) (g t) (before q) (inside t) alike.1.0)

  read_inside : (c : ℕ) (r : Reg) → IfSome (read lat ops rows c r) (λ k. k < length ops)
  read_inside c r = some_of (read lat ops rows c r) (length ops) (λ j is.
      let it = read_in lat ops rows c r j is in
      (issued_early ops rows table c j (numbers_from_issued rows c j it.issued)).0)

  alike_terms : (n : ℕ) → Same n
  alike_terms zero i k before inside within alike = absurd (omega arith)
  alike_terms (suc n) i k before inside within alike =
      let f = given block i in
      let g = read lat ops rows (issue_cycle rows k) in
      let values = same_values n (alike_terms n) f g
      (λ r. result_before i n (length block) before inside (source block i r) (λ j. source_earlier block i j r))
      (read_inside (issue_cycle rows k)) (used (op_at block i)) (used (op_at ops k)) alike.1 in
      terms_here i inside
      ∙ ap (λ s. behind (values_of here s) (label_number (op_at block i))) (each_given i inside)
      ∙ ap (λ v. behind v (label_number (op_at block i))) values
      ∙ ap (λ l. behind (values_of there (sources_of g (used (op_at ops k)))) l)
      (labels_number (op_at block i) (op_at ops k) alike.0)
      ∙ ap (λ s. behind (values_of there s) (label_number (op_at ops k))) (sym (each_read k within))
      ∙ sym (terms_there k within)

  told_unlike : (i k : ℕ) → i < length block → k < length ops → slice_index here i ≢ slice_index there k
      → AreUnlike lat block ops rows i k
  told_unlike i k inside within differ =
      (suc i, λ alike. differ (alike_terms (suc i) i k (omega arith) inside within alike))

pub returns-then-are_terms-2 : goal.returns-then-are_terms-2
returns-then-are_terms-2 c =
    let sides = c.args.sides.now in
    let schedule = sides.schedule.now in
    let lat = sides.latencies.now in
    let reads = c.in_ok-sources.sources.items in
    let each_read : (k : ℕ) → k < length schedule.ops → sources_at reads k
    ≡ sources_of (read lat schedule.ops schedule.rows (issue_cycle schedule.rows k)) (used (op_at schedule.ops k)) =
    λ k within. ap (λ ss. sources_at ss k) (rw c.deref.ensures.value at c.in_ok-sources.ensures)
    ∙ reads_at sides.readings.items k ∙ ap (λ (r : Reading). r.sources) (sides.each_reading k within) in
    let terms_here : AreTerms sides.block.items sides.givens.items c.in_ok-here.here.items =
    rw (c.deref-4.ensures.value, c.deref-5.ensures.value, c.deref-6.ensures.value)
    at (c.are_terms.ensures c.if-are_terms.true) in
    let terms_there : AreTerms schedule.ops reads c.in_ok-there.there.items =
    rw (c.ops-ops.ensures.ops, c.deref-then-are_terms.ensures.value, c.deref-then-are_terms-2.ensures.value)
    at (c.are_terms-then-are_terms.ensures c.if-are_terms-2.true) in
    record {
      unlike = told_unlike lat sides.block.items schedule.ops schedule.rows sides.table sides.givens.items reads
          sides.each_given each_read c.in_ok-here.here.items c.in_ok-there.there.items terms_here terms_there;
      known = λ i inside. (rw c.deref-then-are_terms-2-2.ensures.value at c.in_ok-known.ensures) i (omega arith);
    }

pub returns : goal.returns
returns c = record {
  unlike = λ i k inside within differ.
      let apart = rw (c.new.ensures.items, c.new-2.ensures.items) at differ in
      absurd (apart refl);
  known = λ i inside. rw c.new.ensures.items (c.in_ok-known-2.ensures 0 (omega arith));
}
