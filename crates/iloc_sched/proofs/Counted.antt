-- Cycles that are counted row by row: `CountCycles`.
use Rattle.iloc_sched.proofs.Common.{◌≡◌, ◌≤◌, ◌<◌, ◌+◌, ◌^◌, ℕ, List, [], ◌∷◌, ◌++◌, map, length, max, get_or, Option, Some, None, IfSome, refl, ap, ◌∙◌, inl, inr, arith, cases_lt, get_or_append_left, get_or_push, get_or-map, length_push, option_map, unwrap_or, empty_row, issue_cycle, kind, latency, op_at, row_at, Op, Nop, Latencies, Row}
use Rattle.iloc_timed.specs.Cycles.{cycles}
use Rattle.iloc_timed.specs.Rows.{IsTable}
use Rattle.iloc_timed.proofs.Arrivals.{cycles_le, issued_arrives, issued_within, one_le_cycles, table_numbered, zero_le_cycles}
use Rattle.iloc_timed.proofs.WholeRuns.{short_latency}
use Rattle.iloc_sched.specs.Counted.{IsLatest, arrival}

-- when a slot's result arrives, as it is read of a table of latencies
module _ (lat : Latencies) (ops : List Op) (own : List ℕ) (same : own ≡ map (latency lat) ops) (c : ℕ) where
  own_at : (i : ℕ) → i < length ops → get_or own i 0 ≡ latency lat (op_at ops i)
  own_at i within = ap (λ xs. get_or xs i 0) same ∙ get_or-map (latency lat) ops i Nop 0 within

  pub arrival_of : (slot : Option ℕ) → IfSome slot (λ i. i < length ops)
      → unwrap_or (option_map (λ i. c + get_or own i 0) slot) 0 ≡ arrival lat ops c slot
  arrival_of None known = refl
  arrival_of (Some i) known = ap (λ n. c + n) (own_at i known)

  pub arrival_short : (slot : Option ℕ) → c ≤ 4000000000 → IfSome slot (λ i. i < length ops)
      → IfSome slot (λ i. c + get_or own i 0 < 2 ^ 32)
  arrival_short None early known = tt
  arrival_short (Some i) early known =
      let at : get_or own i 0 ≡ latency lat (op_at ops i) = own_at i known in
      let short : latency lat (op_at ops i) ≤ 16 = short_latency lat (kind (op_at ops i)) in
      omega arith

-- one row more
module _ (lat : Latencies) (ops : List Op) (start : ℕ) (rows : List Row) (row : Row) (last zero one : ℕ) (so_far : IsLatest lat ops start rows last)
    (first : zero ≡ arrival lat ops (length rows) row.zero) (second : one ≡ arrival lat ops (length rows) row.one) where
  at_row : (c : ℕ) → c < length rows → row_at (rows ++ row ∷ []) c ≡ row_at rows c
  at_row c within = get_or_append_left rows (row ∷ []) empty_row c within

  at_last : row_at (rows ++ row ∷ []) (length rows) ≡ row
  at_last = get_or_push rows row empty_row (length rows) refl

  pub latest_more : IsLatest lat ops start (rows ++ row ∷ []) (max (max last zero) one)
  latest_more = record {
    from = let from : start ≤ last = so_far.from in omega arith;
    each = λ c within. elim (cases_lt c (length rows)) [
      | inl before ↦
          let each = so_far.each c before in
          let a : arrival lat ops c (row_at rows c).zero ≤ last = each.0 in
          let b : arrival lat ops c (row_at rows c).one ≤ last = each.1 in
          rw (at_row c before) (omega arith, omega arith)
      | inr after ↦
          let size : length (rows ++ row ∷ []) ≡ length rows + 1 = length_push rows row in
          let here : c ≡ length rows = omega arith in
          rw (here, at_last, ← first, ← second) (omega arith, omega arith)
    ];
    least = λ n from all.
        let size : length (rows ++ row ∷ []) ≡ length rows + 1 = length_push rows row in
        let rest : last ≤ n = so_far.least n from
        (λ c within. rw (at_row c within) at (all c (omega arith))) in
        let here : (arrival lat ops (length rows) row.zero ≤ n) × (arrival lat ops (length rows) row.one ≤ n) =
        rw at_last at (all (length rows) (omega arith)) in
        let a : zero ≤ n = rw first here.0 in
        let b : one ≤ n = rw second here.1 in
        omega arith;
  }

-- of all rows of a schedule the latest arrival is the number of its cycles
pub counted : (lat : Latencies) (ops : List Op) (rows : List Row) (last : ℕ) → IsTable ops rows → IsLatest lat ops 0 rows last
    → last ≡ cycles lat ops rows
counted lat ops rows last table latest =
    let most : last ≤ cycles lat ops rows = latest.least (cycles lat ops rows) (omega arith)
    (λ c within. (zero_le_cycles lat ops rows c within (table_numbered ops rows table), one_le_cycles lat ops rows c within (table_numbered ops rows table))) in
    let least : cycles lat ops rows ≤ last = cycles_le lat ops rows last
    (λ i within.
    let c : ℕ = issue_cycle rows i in
    let each = latest.each (issue_cycle rows i) (issued_within ops rows i within table) in
    let a : arrival lat ops (issue_cycle rows i) (row_at rows (issue_cycle rows i)).zero ≤ last = each.0 in
    let b : arrival lat ops (issue_cycle rows i) (row_at rows (issue_cycle rows i)).one ≤ last = each.1 in
    let by : issue_cycle rows i + latency lat (op_at ops i)
    ≤ max (arrival lat ops (issue_cycle rows i) (row_at rows (issue_cycle rows i)).zero)
    (arrival lat ops (issue_cycle rows i) (row_at rows (issue_cycle rows i)).one) =
    issued_arrives lat ops rows i within (table_numbered ops rows table) in
    omega arith) in
    omega arith
