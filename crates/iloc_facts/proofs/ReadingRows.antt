-- What operations read, noted row by row.
use Rattle.iloc_facts.proofs.Common.{◌≡◌, ℕ, ◌+◌, ◌<◌, ◌≤◌, ◌⊎◌, List, length, IfSome, Some, None, Option, option_to_list, refl, inl, arith, get_or-set_other, get_or-set_same, rules, cases_eq, cases_lt, used, Op, op_at, IsTable, issue_cycle, row_at, slots, Latencies, Row, from_append, in_left, in_right, cycle_is, issued_within, stands_there, In, reading_at, reading_of, sources_of, AreNoted, with_noted, Tracks, holder, Run}
use Rattle.iloc_facts.specs.declared.reading.Reading.{Reading}
use Rattle.iloc_facts.proofs.SourceLists.{sources_same}
use Rattle.iloc_facts.proofs.Tracking.{log_before, held_is_read}

pub length-with_noted : (readings : List Reading) (slot : Option ℕ) (noted : ℕ → Reading)
    → length (with_noted readings slot noted) ≡ length readings
length-with_noted readings None noted = refl
length-with_noted readings (Some k) noted = search rules

noted_here : (readings : List Reading) (slot : Option ℕ) (noted : ℕ → Reading) (k : ℕ) → slot ≡ Some k → k < length readings
    → reading_at (with_noted readings slot noted) k ≡ noted k
noted_here readings slot noted k is within = grind (arith, get_or-set_same)

noted_other : (readings : List Reading) (slot : Option ℕ) (noted : ℕ → Reading) (k : ℕ) → (slot ≡ Some k → ⊥)
    → reading_at (with_noted readings slot noted) k ≡ reading_at readings k
noted_other readings slot noted k other = grind (arith, get_or-set_other)

-- what is noted already stays where the same is noted again
noted_kept : (readings : List Reading) (slot : Option ℕ) (noted : ℕ → Reading) (k : ℕ) → k < length readings
    → reading_at readings k ≡ noted k → reading_at (with_noted readings slot noted) k ≡ noted k
noted_kept readings slot noted k within is = grind (arith, cases_eq, noted_here, noted_other)

in_slots : (one zero : Option ℕ) (k : ℕ) → In (option_to_list one) k ⊎ In (option_to_list zero) k
    → (zero ≡ Some k) ⊎ (one ≡ Some k)
in_slots one zero k h1 = grind arith

-- what a slot holds has a place in the list
pub slot_known : (slot : Option ℕ) (n m : ℕ) → n ≡ m → IfSome slot (λ i. i < m) → IfSome slot (λ i. i < n)
slot_known None n m same known = tt
slot_known (Some i) n m same known = let below : i < m = known in omega arith

module _ (lat : Latencies) (ops : List Op) (rows : List Row) where
  module _ (table : IsTable ops rows) (c : ℕ) where
    stands : (k : ℕ) → k < length ops → issue_cycle rows k ≡ c
        → ((row_at rows c).zero ≡ Some k) ⊎ ((row_at rows c).one ≡ Some k)
    stands k within at =
        let there : In (slots (row_at rows (issue_cycle rows k))) k =
        stands_there rows k (issued_within ops rows table k within) in
        in_slots (row_at rows c).one (row_at rows c).zero k
        (from_append (option_to_list (row_at rows c).one) (option_to_list (row_at rows c).zero) k (rw at at there))

    elsewhere : (k : ℕ) → k < length ops → issue_cycle rows k < c → (slot : Option ℕ)
        → ((j : ℕ) → slot ≡ Some j → issue_cycle rows j ≡ c) → slot ≡ Some k → ⊥
    elsewhere k within earlier slot at is = let here : issue_cycle rows k ≡ c = at k is in omega arith

    -- one more row
    pub one_row : (readings : List Reading) (noted : ℕ → Reading) → AreNoted lat ops rows c readings
        → ((j : ℕ) → (row_at rows c).zero ≡ Some j → issue_cycle rows j ≡ c)
        → ((j : ℕ) → (row_at rows c).one ≡ Some j → issue_cycle rows j ≡ c)
        → ((k : ℕ) → k < length ops → issue_cycle rows k ≡ c → noted k ≡ reading_of lat ops rows k)
        → AreNoted lat ops rows (c + 1)
        (with_noted (with_noted readings (row_at rows c).zero noted) (row_at rows c).one noted)
    one_row readings noted so_far first second right =
        grind (arith, cases_lt, elsewhere, length-with_noted, noted_here, noted_kept, noted_other, stands)

    -- what is noted by what is held is what is read
    pub noted_right : (run : Run) → Tracks (c + 1) (log_before lat ops rows c) run → (k : ℕ) → k < length ops
        → issue_cycle rows k ≡ c
        → ◌≡◌ {A = Reading} (record { cycle = c; sources = sources_of (holder run.holders) (used (op_at ops k)) })
        (reading_of lat ops rows k)
    noted_right run tracks k within at = grind (arith, held_is_read, sources_same)

    -- what a run notes of operation k
    abbrev pub by_run : Run → List Op → ℕ → Reading
    by_run run all k = record { cycle = c; sources = sources_of (holder run.holders) (used (op_at all k)) }

    pub row_noted : (lent : List Op) (lent_rows : List Row) (run : Run) (readings once twice : List Reading) → lent ≡ ops
        → lent_rows ≡ rows → Tracks (c + 1) (log_before lat ops rows c) run → AreNoted lat ops rows c readings
        → once ≡ with_noted readings (row_at lent_rows c).zero (by_run run lent)
        → twice ≡ with_noted once (row_at lent_rows c).one (by_run run lent) → AreNoted lat ops rows (c + 1) twice
    row_noted lent lent_rows run readings once twice same same_rows tracks so_far first second =
        let both : twice ≡ with_noted (with_noted readings (row_at rows c).zero (by_run run ops)) (row_at rows c).one
        (by_run run ops) = rw (first, same, same_rows) at second in
        rw both (one_row readings (by_run run ops) so_far
        (λ j is. cycle_is ops rows table c j
        (in_right (option_to_list (row_at rows c).one) (option_to_list (row_at rows c).zero) j (rw is (inl refl))))
        (λ j is. cycle_is ops rows table c j
        (in_left (option_to_list (row_at rows c).one) (option_to_list (row_at rows c).zero) j (rw is (inl refl))))
        (noted_right run tracks))

  -- at the end each operation is noted
  pub all_noted : (table : IsTable ops rows) (n : ℕ) (readings : List Reading) → length rows ≤ n
      → AreNoted lat ops rows n readings → (k : ℕ) → k < length ops → reading_at readings k ≡ reading_of lat ops rows k
  all_noted table n readings past noted k within = grind (arith, issued_within)
