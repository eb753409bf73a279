-- The numbers that operations have in other rows that issue the same, noted row by row; and the pairing by them.
use Rattle.iloc_validation.proofs.Common.{◌≡◌, ℕ, ◌+◌, ◌<◌, List, length, slice_index, unwrap_or, sym, refl, ◌∙◌, arith, Op, table_numbered, AreNumbered, IsTable, row_at, Latencies, Row, IsLawful, without_nops, IssueTheSame, IsScheduleBy, AreNumbersIn, number_in, with_number, Pairing}
use Rattle.iloc_validation.proofs.NotedSlots.{one_row}
use Rattle.iloc_validation.proofs.InOrder.{under_same, lawful_count, lawful_in_order}
use Rattle.iloc_validation.proofs.SameIssues.{zero_moved, one_moved, under_others}

module _ (ops ops' : List Op) (rows rows' : List Row) (table : IsTable ops' rows')
    (same : IssueTheSame ops rows ops' rows') (c : ℕ) where
  numbered : AreNumbered ops' rows'
  numbered = table_numbered ops' rows' table

  pub row_numbered : (lent : List Row) (row other : Row) (numbers once twice : List ℕ) → lent ≡ rows' → row ≡ row_at lent c
      → other ≡ row_at rows c → AreNumbersIn (length ops') rows rows' c numbers
      → once ≡ with_number numbers row.zero (unwrap_or other.zero 0)
      → twice ≡ with_number once row.one (unwrap_or other.one 0) → AreNumbersIn (length ops') rows rows' (c + 1) twice
  row_numbered lent row other numbers once twice lends is other_is so_far first second =
      let both : twice ≡ with_number (with_number numbers (row_at rows' c).zero (unwrap_or (row_at rows c).zero 0))
      (row_at rows' c).one (unwrap_or (row_at rows c).one 0) = rw (first, is, other_is, lends) at second in
      rw both (one_row ops' rows' table (number_in rows rows') c numbers so_far (unwrap_or (row_at rows c).zero 0)
      (unwrap_or (row_at rows c).one 0)
      (λ k is. sym (zero_moved ops ops' rows rows' numbered same c k is))
      (λ k is. sym (one_moved ops ops' rows rows' numbered same c k is)))

module _ (lat : Latencies) (block ops ops' : List Op) (rows rows' : List Row) (pairing : Pairing)
    (lawful : IsLawful lat block ops rows) (table : IsTable ops' rows') (same : IssueTheSame ops rows ops' rows') where
  pub schedule_by_slot : length pairing.partner.items ≡ length ops
      → ((k : ℕ) → k < length ops' → slice_index pairing.origin.items k ≡ number_in rows rows' k)
      → ((i : ℕ) → i < length ops → slice_index pairing.partner.items i ≡ number_in rows' rows i)
      → IsScheduleBy lat (without_nops block) ops' rows' pairing
  schedule_by_slot size origins partners =
      let itself = lawful_in_order lat block ops rows (λ k. k) (λ i. i) (λ k here. refl) (λ i here. refl) lawful in
      let count : length ops ≡ length (without_nops block) = lawful_count lat block ops rows lawful in
      record {
        size = size ∙ count;
        under = under_same lat (without_nops block) ops' rows' (λ k. number_in rows rows' k) (λ i. number_in rows' rows i)
            (slice_index pairing.origin.items) (slice_index pairing.partner.items) origins
            (λ i here. partners i (omega (arith, count)))
            (under_others lat (without_nops block) ops ops' rows rows' (λ k. k) (λ i. i) itself (table_numbered ops' rows' table) same);
      }
