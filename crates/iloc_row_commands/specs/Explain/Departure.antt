-- Where rows leave the greedy choice.
use Rattle.std.specs.Prelude.{ℕ, ◌&&◌, not, Bool, List, [], ◌++◌, length, find, Option, Some, None, option_map, codes}
use Rattle.std.specs.List.{list_all, range_with_len}
use Rattle.std.specs.Fmt.{decimal}
use Rattle.iloc_ops.specs.declared.op.Op.{Op}
use Rattle.iloc_ops.specs.Spelling.{spelling}
use Rattle.iloc_meaning.specs.Trace.{op_at}
use Rattle.iloc_timed.specs.declared.latencies.Latencies.{Latencies}
use Rattle.iloc_timed.specs.declared.row.Row.{Row}
use Rattle.iloc_timed.specs.Rows.{holds, row_at, slots}
use Rattle.iloc_rules.specs.Greedy.{chosen, ready}
use Rattle.iloc_row_commands.specs.declared.explain.departure.Departure.{Departure}

-- whether two rows take the same operations, on either unit
abbrev pub take_the_same : Row → Row → Bool
take_the_same row other = list_all (holds other) (slots row) && list_all (holds row) (slots other)

module _ (prios : List ℕ) (lat : Latencies) (ops : List Op) (rows : List Row) where
  -- what the choice would take in cycle `c`, from what is ready in the rows
  abbrev pub choice_at : ℕ → Row
  choice_at c = chosen ops prios (ready lat ops rows c)

  -- whether the row of cycle c takes something else
  abbrev pub leaves_choice : ℕ → Bool
  leaves_choice c = not (take_the_same (row_at rows c) (choice_at c))

  -- the first row that does, with what the choice would take there
  abbrev pub departure : Option Departure
  departure = option_map (λ c. record { row = c; choice = choice_at c }) (find leaves_choice (range_with_len 0 (length rows)))

-- `J ISSUED`: an operation's number, and what is issued for it; `nop` for none
abbrev pub taken_text : List Op → Option ℕ → List ℕ
taken_text issued None = codes "nop"
taken_text issued (Some j) = decimal j ++ codes " " ++ spelling (op_at issued j)

-- `row R: the choice would take J ISSUED ; J ISSUED`, if a row leaves the choice
abbrev pub departure_line : List Op → Option Departure → List ℕ
departure_line issued None = []
departure_line issued (Some d) =
    codes "row " ++ decimal d.row ++ codes ": the choice would take " ++ taken_text issued d.choice.zero
    ++ codes " ; " ++ taken_text issued d.choice.one ++ codes "\n"
