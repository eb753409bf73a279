-- Every pairing keeps the places of loads, stores and outputs, and so the first colours.
use Rattle.iloc_validation.proofs.Common.{◌≡◌, ℕ, suc, ◌+◌, ◌%◌, ◌^◌, ◌<◌, ◌≤◌, Bool, true, ◌⊎◌, List, [], ◌∷◌, ◌++◌, length, slice_index, Some, None, filter, Option, option_to_list, sym, refl, ap, ◌∙◌, subst, ap₂, inl, append_assoc, append-nil, arith, mod-add-mod, cases_lt, length-filter, Op, op_at, is_output, is_store, kind, IsTable, issue_cycle, row_at, Kind, Latencies, Row, output_is, store_is, from_filter, in_filter, Ordered, ordered_filter, ComesLater, early_issued, issued_in_order, numbers_before, In, issued_before, ByLabel, IsScheduleUnder, AreKept, ArePlaces, colour_in, count_of, counted, first_here, first_there, label_colour, numbers_below, with_op, with_place, with_slot, AreNotedBefore, with_number, memory_by, Sides}
use Rattle.iloc_timed.specs.declared.kind.Kind.TheVariants as K
use Rattle.iloc_rules.proofs.Basics.Slots.{issued_early}
use Rattle.iloc_validation.specs.declared.decision.first_colours.Places.{Places}
use Rattle.iloc_validation.proofs.FewerNumbers.{Apart, fewer, below_from, in_below, below_apart, count_append, count_single, count_issued}
use Rattle.iloc_validation.proofs.FirstColours.{same_label_colour}
use Rattle.iloc_validation.proofs.NotedSlots.{at_zero, at_one, one_row}
use Rattle.iloc_validation.proofs.UnderWayExcludes.{kind_of, waited}

-- Counts as the code keeps them

counted_more : (test : Kind → Bool) (ops : List Op) (ks : List ℕ) (k n : ℕ) → n ≡ count_of test ops ks % 2 ^ 64
    → counted test (op_at ops k) n ≡ count_of test ops (ks ++ (k ∷ [])) % 2 ^ 64
counted_more test ops ks k n is = grind (arith, count_append, count_single, mod-add-mod)

pub places_op : (ops : List Op) (ks : List ℕ) (k : ℕ) (places : Places) → ArePlaces ops ks places
    → ArePlaces ops (ks ++ (k ∷ [])) (with_op (op_at ops k) places)
places_op ops ks k places are = record {
  stores = counted_more is_store ops ks k places.stores are.stores;
  outputs = counted_more is_output ops ks k places.outputs are.outputs;
}

places_slot : (ops : List Op) (ks : List ℕ) (slot : Option ℕ) (places : Places) → ArePlaces ops ks places
    → ArePlaces ops (ks ++ option_to_list slot) (with_slot ops slot places)
places_slot ops ks None places are = subst (λ ns. ArePlaces ops ns places) (sym (append-nil ks)) are
places_slot ops ks (Some k) places are = places_op ops ks k places are

pub places_row : (ops : List Op) (rows : List Row) (c n : ℕ) (places : Places) → n ≡ suc c
    → ArePlaces ops (issued_before rows c) places
    → ArePlaces ops (issued_before rows n) (with_slot ops (row_at rows c).one (with_slot ops (row_at rows c).zero places))
places_row ops rows c n places is are =
    let first : List ℕ = option_to_list (row_at rows c).zero in
    let second : List ℕ = option_to_list (row_at rows c).one in
    let once : ArePlaces ops (issued_before rows c ++ option_to_list (row_at rows c).zero)
    (with_slot ops (row_at rows c).zero places) =
    places_slot ops (issued_before rows c) (row_at rows c).zero places are in
    let twice = places_slot ops (issued_before rows c ++ option_to_list (row_at rows c).zero) (row_at rows c).one
    (with_slot ops (row_at rows c).zero places) once in
    rw is (subst (λ ns. ArePlaces ops ns (with_slot ops (row_at rows c).one (with_slot ops (row_at rows c).zero places)))
    (append_assoc (issued_before rows c) (option_to_list (row_at rows c).zero) (option_to_list (row_at rows c).one)) twice)

-- the colours that a row is given
pub slot_colour : (labels : ByLabel) (ops : List Op) (rows : List Row) (c : ℕ) (places : Places) (slot : Option ℕ)
    → ArePlaces ops (issued_before rows c) places → (k : ℕ) → slot ≡ Some k → issue_cycle rows k ≡ c
    → colour_in labels ops places.stores places.outputs slot ≡ first_there labels ops rows k
slot_colour labels ops rows c places slot are k is at = grind arith

pub places_next : (ops : List Op) (i n : ℕ) (places next : Places) → n ≡ suc i → next ≡ with_op (op_at ops i) places
    → ArePlaces ops (numbers_below i) places → ArePlaces ops (numbers_below n) next
places_next ops i n places next is noted are = rw (is, noted) (places_op ops (numbers_below i) i places are)

module _ (ops : List Op) (rows : List Row) (table : IsTable ops rows) (c : ℕ) (lent : List Op) (lent_rows : List Row)
    (places : Places) (same : lent ≡ ops) (same_rows : lent_rows ≡ rows) (are : ArePlaces ops (issued_before rows c) places) where
  pub row_placed : (once twice : Places) → once ≡ with_slot lent (row_at lent_rows c).zero places
      → twice ≡ with_slot lent (row_at lent_rows c).one once → ArePlaces ops (issued_before rows (c + 1)) twice
  row_placed once twice first second =
      let both : twice ≡ with_slot ops (row_at rows c).one (with_slot ops (row_at rows c).zero places) =
      rw (first, same, same_rows) at second in
      rw both (places_row ops rows c (c + 1) places (omega arith) are)

  pub row_coloured : (labels : ByLabel) (colours once twice : List ℕ)
      → AreNotedBefore (length ops) (first_there labels ops rows) rows c colours
      → once ≡ with_number colours (row_at lent_rows c).zero
      (colour_in labels lent places.stores places.outputs (row_at lent_rows c).zero)
      → twice ≡ with_number once (row_at lent_rows c).one
      (colour_in labels lent places.stores places.outputs (row_at lent_rows c).one)
      → AreNotedBefore (length ops) (first_there labels ops rows) rows (c + 1) twice
  row_coloured labels colours once twice so_far first second =
      let both : twice ≡ with_number (with_number colours (row_at rows c).zero
      (colour_in labels ops places.stores places.outputs (row_at rows c).zero)) (row_at rows c).one
      (colour_in labels ops places.stores places.outputs (row_at rows c).one) = rw (first, same, same_rows) at second in
      rw both (one_row ops rows table (first_there labels ops rows) c colours so_far
      (colour_in labels ops places.stores places.outputs (row_at rows c).zero)
      (colour_in labels ops places.stores places.outputs (row_at rows c).one)
      (λ k is. slot_colour labels ops rows c places (row_at rows c).zero are k is
      (at_zero ops rows table (first_there labels ops rows) c k is))
      (λ k is. slot_colour labels ops rows c places (row_at rows c).one are k is
      (at_one ops rows table (first_there labels ops rows) c k is)))

-- Places are kept

-- of two operations of these kinds each waits for the other, whichever comes first
record KeepOrder (lat : Latencies) (a b : Kind) : Type 0 where
  ahead : ℕ
  is_ahead : In (memory_by lat a b) ahead
  some : 1 ≤ ahead
  behind : In (memory_by lat b a) 1

abbrev IsPlaced : Kind → Type 0
IsPlaced a = (a ≡ K.Load) ⊎ ((a ≡ K.Store) ⊎ (a ≡ K.Output))

stores_keep : (lat : Latencies) (a b : Kind) → is_store a ≡ true → IsPlaced b → KeepOrder lat a b
stores_keep lat a b store h2 = grind (arith, store_is)

outputs_keep : (lat : Latencies) (a b : Kind) → is_output a ≡ true → b ≡ K.Output → KeepOrder lat a b
outputs_keep lat a b output out = rw (output_is a output, out)
    record { ahead = 1; is_ahead = inl refl; some = omega arith; behind = inl refl }

apart_of : (rows : List Row) (ks : List ℕ) → Ordered (ComesLater rows) ks → Ordered Apart ks
apart_of rows [] ordered = tt
apart_of rows (k ∷ ks) ordered = ((λ j there. (ordered.0 j there).apart), apart_of rows ks ordered.1)

module _ (lat : Latencies) (block ops : List Op) (rows : List Row) (origin partner : ℕ → ℕ)
    (by : IsScheduleUnder lat block ops rows origin partner) where
  one_origin : (j k : ℕ) → j < length ops → k < length ops → origin j ≡ origin k → j ≡ k
  one_origin j k here there same = sym (by.paired.back j here) ∙ ap partner same ∙ by.paired.back k there

  one_partner : (i j : ℕ) → i < length block → j < length block → partner i ≡ partner j → i ≡ j
  one_partner i j here there same = sym (by.paired.back_too i here) ∙ ap origin same ∙ by.paired.back_too j there

  module _ (j k : ℕ) (here : j < length ops) (there : k < length ops)
      (keep : KeepOrder lat (kind (op_at ops j)) (kind (op_at ops k))) where
    issued_first : origin j < origin k → issue_cycle rows j < issue_cycle rows k
    issued_first before = grind (arith, waited)

    stands_first : issue_cycle rows j < issue_cycle rows k → origin j < origin k
    stands_first early = grind (arith, cases_lt, one_origin, waited)

  module _ (test : Kind → Bool) (k : ℕ) (inside : k < length ops)
      (keep : (j : ℕ) → test (kind (op_at ops j)) ≡ true → KeepOrder lat (kind (op_at ops j)) (kind (op_at ops k))) where
    abbrev p : ℕ → Bool
    p j = test (kind (op_at ops j))

    abbrev q : ℕ → Bool
    q i = test (kind (op_at block i))

    abbrev c : ℕ
    c = issue_cycle rows k

    abbrev issued : List ℕ
    issued = filter p (numbers_before rows c)

    abbrev given : List ℕ
    given = filter q (numbers_below (origin k))

    same_test : (j : ℕ) → j < length ops → p j ≡ q (origin j)
    same_test j here = ap test (kind_of lat block ops rows origin partner by j here)

    issued_few : length issued ≤ length given
    issued_few = fewer issued given origin (apart_of rows issued (ordered_filter (ComesLater rows) p (numbers_before rows c)
        (issued_in_order ops rows by.table c)))
        (λ j there.
        let parts = from_filter p (numbers_before rows c) j there in
        let at = issued_early ops rows by.table c j parts.0 in
        in_filter q (numbers_below (origin k)) (origin j)
        (in_below (origin k) (origin j) (stands_first j k at.0 inside (keep j parts.1) at.1))
        (sym (same_test j at.0) ∙ parts.1))
        (λ i j there there_too same. one_origin i j
        (issued_early ops rows by.table c i (from_filter p (numbers_before rows c) i there).0).0
        (issued_early ops rows by.table c j (from_filter p (numbers_before rows c) j there_too).0).0 same)

    given_inside : (i : ℕ) → In given i → i < length block
    given_inside i there = grind (arith, below_from, from_filter)

    given_few : length given ≤ length issued
    given_few = fewer given issued partner (ordered_filter Apart q (numbers_below (origin k)) (below_apart (origin k)))
        (λ i there.
        let parts = from_filter q (numbers_below (origin k)) i there in
        let less : i < origin k = below_from (origin k) i parts.0 in
        let here : i < length block = given_inside i there in
        let below : partner i < length ops = by.paired.there_too i here in
        let back : origin (partner i) ≡ i = by.paired.back_too i here in
        let passes : p (partner i) ≡ true = same_test (partner i) below ∙ ap q back ∙ parts.1 in
        in_filter p (numbers_before rows c) (partner i)
        (early_issued ops rows by.table c (partner i) below
        (issued_first (partner i) k below inside (keep (partner i) passes) (rw back less)))
        passes)
        (λ i j there there_too same. one_partner i j (given_inside i there) (given_inside j there_too) same)

    count_kept : count_of test ops (issued_before rows c) ≡ count_of test block (numbers_below (origin k))
    count_kept = grind (arith, count_issued, given_few, issued_few, length-filter)

  same_place : (a : Kind) (colour s s' o o' : ℕ) → (IsPlaced a → s ≡ s') → (a ≡ K.Output → o ≡ o')
      → with_place a colour s o ≡ with_place a colour s' o'
  same_place a colour s s' o o' stores outputs = grind arith

  first_same : (labels : ByLabel) (k : ℕ) → k < length ops → first_there labels ops rows k ≡ first_here labels block (origin k)
  first_same labels k inside =
      same_place (kind (op_at ops k)) (label_colour labels (op_at ops k)) _ _ _ _
      (λ placed. ap (λ n. n % 2 ^ 64) (count_kept is_store k inside (λ j store.
      stores_keep lat (kind (op_at ops j)) (kind (op_at ops k)) store placed)))
      (λ output. ap (λ n. n % 2 ^ 64) (count_kept is_output k inside (λ j is.
      outputs_keep lat (kind (op_at ops j)) (kind (op_at ops k)) is output)))
      ∙ ap₂ (λ a colour. with_place a colour (count_of is_store block (numbers_below (origin k)) % 2 ^ 64)
      (count_of is_output block (numbers_below (origin k)) % 2 ^ 64))
      (kind_of lat block ops rows origin partner by k inside)
      (same_label_colour labels (op_at ops k) (op_at block (origin k)) (by.paired.labels k inside))

pub first_kept : (labels : ByLabel) (sides : Sides) (here there : List ℕ)
    → ((i : ℕ) → i < length sides.block.items → slice_index here i ≡ first_here labels sides.block.items i)
    → ((k : ℕ) → k < length sides.schedule.now.ops
    → slice_index there k ≡ first_there labels sides.schedule.now.ops sides.schedule.now.rows k)
    → AreKept sides here there
first_kept labels sides here there each each_there = λ origin partner under k inside.
    each_there k inside
    ∙ first_same sides.latencies.now sides.block.items sides.schedule.now.ops sides.schedule.now.rows origin partner
    under labels k inside
    ∙ sym (each (origin k) (under.paired.there k inside))
