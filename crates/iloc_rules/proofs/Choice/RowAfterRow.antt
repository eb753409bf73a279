-- Rows that are chosen one after another are lawful and greedy at their end; for `schedule` (`greedy`).
use Rattle.iloc_rules.proofs.Common.{◌≡◌, ℕ, ◌+◌, ◌<◌, ◌≤◌, ◌≢◌, List, [], ◌∷◌, ◌++◌, length, IsTrue, ap, ◌∙◌, inl, inr, arith, cases_lt, length_push, Op, IsTable, issue_cycle, keeps_units, row_at, slots, times_issued, Latencies, Row, Counts, all_count, IsGreedyBy, IsGreedyWhere, chosen, ready, ready_where, renamed, IsChosenSoFar, IsChosenWhere, In}
use Rattle.iloc_rules.proofs.Basics.Members.{in_from}
use Rattle.iloc_rules.proofs.Basics.Slots.{count_in, stands_there}
use Rattle.iloc_rules.proofs.Basics.IssueCycles.{row_at_more, row_at_last, row_at_past, times_one}
use Rattle.iloc_rules.proofs.Choice.Ready.{IsReadyWhere, ready_means_where, ready_kept}
use Rattle.iloc_rules.proofs.Choice.ChosenRows.{chosen_units, chosen_in, once_in}
use Rattle.iloc_rules.proofs.DelayPairs.WaitedFor.{WaitsWhere}

pub chosen_more_where : (counts : Counts) (prios : List ℕ) (lat : Latencies) (ops : List Op) (rows : List Row) (row : Row) → IsChosenWhere counts prios lat ops rows
    → row ≡ chosen ops prios (ready_where counts lat ops rows (length rows))
    → IsChosenWhere counts prios lat ops (rows ++ row ∷ [])
chosen_more_where counts prios lat ops rows row so_far is c below =
    let longer : length (rows ++ row ∷ []) ≡ length rows + 1 = length_push rows row in
    elim (cases_lt c (length rows)) [
      | inl before ↦
          grind (arith, ready_kept, row_at_more)
      | inr last ↦
          grind (arith, ready_kept, row_at_last)
    ]

module _ (counts : Counts) (prios : List ℕ) (lat : Latencies) (ops : List Op) (rows : List Row)
    (so_far : IsChosenWhere counts prios lat ops rows) where
  -- what stands in a row was ready
  pub was_ready : (c i : ℕ) → In (slots (row_at rows c)) i → IsReadyWhere counts lat ops rows c i
  was_ready c i there = grind (arith, chosen_in, ready_means_where, row_at_past)

  stands_once : (c i : ℕ) → c < length rows → In (slots (row_at rows c)) i → count_in (row_at rows c) i ≡ 1
  stands_once c i below there = grind (arith, once_in)

  units_kept : (c : ℕ) → IsTrue (keeps_units ops (row_at rows c))
  units_kept c = elim (cases_lt c (length rows)) [
    | inl below ↦ ap (keeps_units ops) (so_far c below) ∙ chosen_units ops prios (ready_where counts lat ops rows c)
    | inr past ↦ ap (keeps_units ops) (row_at_past rows c past)
  ]

  module _ (all_issued : (i : ℕ) → i < length ops → issue_cycle rows i < length rows) where
    issued_once : (i : ℕ) → i < length ops → times_issued rows i ≡ 1
    issued_once i below =
        times_one rows i (all_issued i below)
        (stands_once (issue_cycle rows i) i (all_issued i below) (stands_there rows i (all_issued i below)))
        (λ c above under there. let waiting : c ≤ issue_cycle rows i = (was_ready c i there).waiting in omega arith)

    waited : WaitsWhere counts lat ops rows
    waited i j d pair = (was_ready (issue_cycle rows j) j (stands_there rows j (all_issued j pair.within))).over i d
        pair

    is_table : IsTable ops rows
    is_table = record {
      in_range = λ c i there. (was_ready c i (in_from (slots (row_at rows c)) i there)).within;
      once = issued_once;
      units = units_kept;
    }

pub chosen_is_greedy_where : (counts : Counts) (prios : List ℕ) (lat : Latencies) (block ops : List Op) (rows : List Row)
    → ops ≡ renamed block
    → IsChosenWhere counts prios lat ops rows → ((i : ℕ) → i < length ops → issue_cycle rows i < length rows)
    → ((c : ℕ) → length rows ≡ c + 1 → slots (row_at rows c) ≢ []) → IsGreedyWhere counts prios lat block ops rows
chosen_is_greedy_where counts prios lat block ops rows names so_far all_issued last =
    grind (arith, is_table counts prios lat ops rows so_far all_issued, waited counts prios lat ops rows so_far all_issued)

-- the same where all count
pub chosen_more : (prios : List ℕ) (lat : Latencies) (ops : List Op) (rows : List Row) (row : Row) → IsChosenSoFar prios lat ops rows
    → row ≡ chosen ops prios (ready lat ops rows (length rows))
    → IsChosenSoFar prios lat ops (rows ++ row ∷ [])
chosen_more = chosen_more_where all_count

pub chosen_is_greedy : (prios : List ℕ) (lat : Latencies) (block ops : List Op) (rows : List Row) → ops ≡ renamed block
    → IsChosenSoFar prios lat ops rows → ((i : ℕ) → i < length ops → issue_cycle rows i < length rows)
    → ((c : ℕ) → length rows ≡ c + 1 → slots (row_at rows c) ≢ []) → IsGreedyBy prios lat block ops rows
chosen_is_greedy = chosen_is_greedy_where all_count
