-- The rows of a lawful schedule are what its lines say is taken; a cycle that begins no line has an empty row.
use Rattle.iloc_explain.proofs.Common.{◌≡◌, ℕ, suc, ◌+◌, ◌<◌, ◌≤◌, true, ◌&&◌, List, [], ◌∷◌, map, length, ◌==◌, Some, None, Option, refl, ap, ◌∙◌, arith, and_parts, eqb-true, range_with_len, Op, by_bool, holds_one, holds_zero, issued_there, empty_row, holds, issue_cycle, row_at, slots, Latencies, MemoryRule, Row, ready_under, IsLawfulWhere, counts_by, In}
use Rattle.iloc_timed.proofs.Counts.{any_contains}
use Rattle.iloc_rules.proofs.Choice.Ready.{ready_from_where}
use Rattle.iloc_explain.specs.CycleLines.{is_idle_before}
use Rattle.iloc_explain.specs.Laws.{LinesGiveTheRows, row_read}
use Rattle.iloc_explain.specs.ReadyList.{is_idle}

-- rows by their cycles
rows_by : (rows : List Row) (f : ℕ → Row) (a : ℕ) → ((c : ℕ) → c < length rows → row_at rows c ≡ f (a + c))
    → rows ≡ map f (range_with_len a (length rows))
rows_by [] f a each = refl
rows_by (row ∷ rows) f a each =
    let first : row ≡ f a = each 0 (omega arith) ∙ ap f (omega arith) in
    let rest : rows ≡ map f (range_with_len (a + 1) (length rows)) =
    rows_by rows f (a + 1) (λ c within. each (suc c) (omega arith) ∙ ap f (omega arith)) in
    ap (λ r. r ∷ rows) first ∙ ap (λ rs. f a ∷ rs) rest

both_empty : (row : Row) → row.zero ≡ None → row.one ≡ None → row ≡ empty_row
both_empty row no_zero no_one =
    ap (λ slot. record { zero = slot; one = row.one }) no_zero ∙ ap (λ slot. record { zero = None; one = slot }) no_one

module _ (rule : MemoryRule) (lat : Latencies) (block ops : List Op) (rows : List Row) (lawful : IsLawfulWhere (counts_by rule ops) lat block ops rows) where
  -- what a row takes is ready
  taken_ready : (c i : ℕ) → c < length rows → holds (row_at rows c) i ≡ true → In (ready_under rule lat ops rows c) i
  taken_ready c i within held =
      let known : i < length ops = lawful.table.in_range c i (any_contains (slots (row_at rows c)) i held) in
      let at : issue_cycle rows i ≡ c = issued_there rows c i (lawful.table.once i known) within held in
      ready_from_where (counts_by rule ops) lat ops rows c i record {
        within = known;
        waiting = omega arith;
        over = λ h d pair. let waits : issue_cycle rows h + d ≤ issue_cycle rows i = lawful.waits h i d pair in omega arith;
      }

  none_idle : (c i : ℕ) → is_idle rule lat ops rows c ≡ true → In (ready_under rule lat ops rows c) i → ⊥
  none_idle c i idle there = by_list (ready_under rule lat ops rows c) refl there
    where
      by_list : (xs : List ℕ) → ready_under rule lat ops rows c ≡ xs → In xs i → ⊥
      by_list [] is there = there
      by_list (x ∷ xs) is there = let none : (length (x ∷ xs) == 0) ≡ true = rw is at idle in
          let size : suc (length xs) ≡ 0 = eqb-true (length (x ∷ xs)) 0 none in absurd (omega arith)

  idle_empty : (c : ℕ) → c < length rows → is_idle rule lat ops rows c ≡ true → row_at rows c ≡ empty_row
  idle_empty c within idle = by_slots (row_at rows c).zero (row_at rows c).one refl refl
    where
      by_slots : (a b : Option ℕ) → (row_at rows c).zero ≡ a → (row_at rows c).one ≡ b → row_at rows c ≡ empty_row
      by_slots (Some i) b is is' = absurd (none_idle c i idle (taken_ready c i within (holds_zero (row_at rows c) i is)))
      by_slots None (Some i) is is' = absurd (none_idle c i idle (taken_ready c i within (holds_one (row_at rows c) i is')))
      by_slots None None is is' = both_empty (row_at rows c) is is'

  row_is_read : (prios : List ℕ) (c : ℕ) → c < length rows → row_at rows c ≡ row_read prios rule lat ops rows c
  row_is_read prios c within = by_bool (is_idle_before prios rule lat ops rows c && is_idle rule lat ops rows c)
      (λ t. rw t (idle_empty c within (and_parts (is_idle_before prios rule lat ops rows c) (is_idle rule lat ops rows c) t).1))
      (λ f. rw f refl)

pub lines_give_the_rows : LinesGiveTheRows
lines_give_the_rows prios rule lat block ops rows lawful =
    rows_by rows (row_read prios rule lat ops rows) 0
    (λ c within. row_is_read rule lat block ops rows lawful prios c within ∙ ap (row_read prios rule lat ops rows) (omega arith))
