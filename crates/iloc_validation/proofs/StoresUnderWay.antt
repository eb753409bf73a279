-- What a row issues while a store is under way; for `is_under_way`.
use Rattle.iloc_validation.proofs.Common.{◌≡◌, ℕ, ◌+◌, ◌<◌, Bool, true, ◌||◌, ◌⊎◌, List, length, Some, None, Option, refl, ap, inl, inr, arith, false≢true, or_cases, Op, op_at, is_store, kind, latency_of, IsTable, is_some_kind, issue_cycle, kind_in, row_at, slots, Kind, Latencies, Row, store_is, cycle_is, within, reads_stored, In, IsUnderWay, IsStoredUntil}
use Rattle.iloc_timed.specs.declared.kind.Kind.TheVariants as K
use Rattle.iloc_validation.proofs.SameIssues.{in_first, in_second}

is_of_reader : (k : Kind) → reads_stored K.Store k ≡ true → (k ≡ K.Load) ⊎ (k ≡ K.Output)
is_of_reader k is = grind (arith, false≢true)

-- what stands in a slot, of a kind that passes
record Passes (test : Kind → Bool) (ops : List Op) (slot : Option ℕ) : Type 0 where
  k : ℕ
  there : slot ≡ Some k
  passes : test (kind (op_at ops k)) ≡ true

in_slot : (test : Kind → Bool) (ops : List Op) (slot : Option ℕ) → is_some_kind test (kind_in ops slot) ≡ true
    → Passes test ops slot
in_slot test ops None is = absurd (false≢true is)
in_slot test ops (Some k) is = record { k = k; there = refl; passes = is }

-- an operation of a row, of a kind that passes
record IssuesOne (test : Kind → Bool) (ops : List Op) (rows : List Row) (c : ℕ) : Type 0 where
  k : ℕ
  within : k < length ops
  at : issue_cycle rows k ≡ c
  passes : test (kind (op_at ops k)) ≡ true

module _ (lat : Latencies) (ops : List Op) (rows : List Row) (table : IsTable ops rows) (c : ℕ) where
  issues_it : (test : Kind → Bool) {slot : Option ℕ} (it : Passes test ops slot) → In (slots (row_at rows c)) it.k
      → IssuesOne test ops rows c
  issues_it test it there = grind (arith, cycle_is, within)

  issues_one : (test : Kind → Bool) → (is_some_kind test (kind_in ops (row_at rows c).zero) ≡ true)
      ⊎ (is_some_kind test (kind_in ops (row_at rows c).one) ≡ true) → IssuesOne test ops rows c
  issues_one test (inl zero) =
      let it = in_slot test ops (row_at rows c).zero zero in
      issues_it test it (in_second (row_at rows c).one (row_at rows c).zero it.k it.there)
  issues_one test (inr one) =
      let it = in_slot test ops (row_at rows c).one one in
      issues_it test it (in_first (row_at rows c).one (row_at rows c).zero it.k it.there)

  -- a row with a store
  pub stored : (until : ℕ) → until ≡ c + lat.store → (is_some_kind is_store (kind_in ops (row_at rows c).zero) ≡ true)
      ⊎ (is_some_kind is_store (kind_in ops (row_at rows c).one) ≡ true) → IsStoredUntil lat ops rows (c + 1) until
  stored until is stores =
      let it = issues_one is_store stores in
      let at : issue_cycle rows it.k ≡ c = it.at in
      record {
        s = it.k;
        within = it.within;
        store = store_is (kind (op_at ops it.k)) it.passes;
        begun = omega arith;
        over = omega arith;
      }

  -- one without keeps what is under way
  pub still_stored : (until : ℕ) → IsStoredUntil lat ops rows c until → IsStoredUntil lat ops rows (c + 1) until
  still_stored until it = grind (arith, within)

  -- what reads memory in a row is issued while that store is under way
  pub reads_under_way : (until : ℕ) → c < until → IsStoredUntil lat ops rows (c + 1) until
      → (is_some_kind (reads_stored K.Store) (kind_in ops (row_at rows c).zero) ≡ true)
      ⊎ (is_some_kind (reads_stored K.Store) (kind_in ops (row_at rows c).one) ≡ true)
      → (k : ℕ) × (s : ℕ) × (k < length ops) × (s < length ops) × IsUnderWay lat ops rows k s
  reads_under_way until early it reads =
      let one = issues_one (reads_stored K.Store) reads in
      let at : issue_cycle rows one.k ≡ c = one.at in
      let begun : issue_cycle rows it.s < c + 1 = it.begun in
      let takes : latency_of lat (kind (op_at ops it.s)) ≡ lat.store = ap (latency_of lat) it.store in (
        one.k,
        it.s,
        one.within,
        it.within,
        record {
          store = it.store;
          waits = is_of_reader (kind (op_at ops one.k)) one.passes;
          begun = omega arith;
          not_over = omega (arith, takes, it.over);
        },
      )

  -- what is under way after a row
  pub row_stored : (old new : ℕ) → (0 < old → IsStoredUntil lat ops rows c old) → ((new ≡ c + lat.store)
      × ((is_some_kind is_store (kind_in ops (row_at rows c).zero)
      || is_some_kind is_store (kind_in ops (row_at rows c).one)) ≡ true)) ⊎ (new ≡ old) → 0 < new
      → IsStoredUntil lat ops rows (c + 1) new
  row_stored old new before (inl (is, stores)) some = stored new is (or_cases _ _ stores)
  row_stored old new before (inr is) some = rw is (still_stored old (before (rw is at some)))

  pub row_reads : (until : ℕ) → c < until → IsStoredUntil lat ops rows (c + 1) until
      → (is_some_kind (reads_stored K.Store) (kind_in ops (row_at rows c).zero)
      || is_some_kind (reads_stored K.Store) (kind_in ops (row_at rows c).one)) ≡ true
      → (k : ℕ) × (s : ℕ) × (k < length ops) × (s < length ops) × IsUnderWay lat ops rows k s
  row_reads until early it reads = reads_under_way until early it (or_cases _ _ reads)
