-- The ready list as it is listed: a line for each cycle, and one for cycles in a row at which nothing is ready.
use Rattle.std.specs.Prelude.{ℕ, zero, suc, ◌-◌, ◌==◌, ◌&&◌, not, Bool, false, if◌then◌else◌, List, [], ◌∷◌, ◌++◌, length, map, slice_index, Option, Some, None, codes}
use Rattle.std.specs.List.{flat_map, range_with_len}
use Rattle.std.specs.Fmt.{decimal}
use Rattle.iloc_ops.specs.declared.op.Op.{Op}
use Rattle.iloc_timed.specs.declared.latencies.Latencies.{Latencies}
use Rattle.iloc_timed.specs.declared.row.Row.{Row}
use Rattle.iloc_timed.specs.Cycles.{cycles}
use Rattle.iloc_timed.specs.Rows.{row_at}
use Rattle.iloc_rules.specs.declared.memory_rule.MemoryRule.{MemoryRule}
use Rattle.iloc_rules.specs.Greedy.{first_of_all}
use Rattle.iloc_explain.specs.declared.ready_list.TheConstants.{MOST_LISTED}
use Rattle.iloc_explain.specs.Holding.{held_by, keeper}
use Rattle.iloc_explain.specs.Listing.{cycles_line, holder_text}
use Rattle.iloc_explain.specs.ReadyList.{arrival, first_ranked, is_idle, left_out, next_busy, next_ready, ready_under, under_way}

-- `C`, or `C-D` up to a later cycle
abbrev pub span_text : ℕ → ℕ → List ℕ
span_text first last = decimal first ++ (if first == last then [] else codes "-" ++ decimal last)

-- `I MARK N`
abbrev pub pair_text : List ℕ → ℕ × ℕ → List ℕ
pair_text mark pair = decimal pair.0 ++ mark ++ decimal pair.1

-- pairs with commas between them, `-` where there are none
abbrev pub pairs_text : List ℕ → List (ℕ × ℕ) → List ℕ
pairs_text mark [] = codes "-"
pairs_text mark (pair ∷ rest) = pair_text mark pair ++ flat_map (λ p. codes "," ++ pair_text mark p) rest

-- `,+N`: `n` more, if there are any
abbrev pub more_text : ℕ → List ℕ
more_text n = if n == 0 then [] else codes ",+" ++ decimal n

-- the number in a slot, `-` for none
abbrev pub slot_text : Option ℕ → List ℕ
slot_text None = codes "-"
slot_text (Some i) = decimal i

-- `J held H`: what is left out of a row, and what keeps it out; where nothing is, `J at C`: what is ready next, after the
-- cycle at which it is
abbrev pub next_text : List Op → Row → Option ℕ → Option (ℕ × ℕ) → List ℕ
next_text ops row (Some j) coming = decimal j ++ codes " held " ++ holder_text (held_by (keeper ops row j))
next_text ops row None (Some (c, j)) = decimal j ++ codes " at " ++ decimal c
next_text ops row None None = codes "-"

-- each of `numbers` with its `value`
abbrev pub paired : (ℕ → ℕ) → List ℕ → List (ℕ × ℕ)
paired value numbers = map (λ n. (n, value n)) numbers

module _ (prios : List ℕ) (rule : MemoryRule) (lat : Latencies) (ops : List Op) (rows : List Row) where
  -- `J:P,J:P..`: what is ready at cycle c, by rank, each with its priority, at most so many
  abbrev pub ready_text : ℕ → List ℕ
  ready_text c =
      pairs_text (codes ":") (paired (slice_index prios) (first_ranked MOST_LISTED prios (ready_under rule lat ops rows c)))
      ++ more_text (length (ready_under rule lat ops rows c) - MOST_LISTED)

  -- `takes X ; Y next J held H`: the row of cycle c, and the first that is left out of it
  abbrev pub taken_text : ℕ → List ℕ
  taken_text c =
      codes " takes " ++ slot_text (row_at rows c).zero ++ codes " ; " ++ slot_text (row_at rows c).one ++ codes " next "
      ++ next_text ops (row_at rows c) (first_of_all prios (left_out rule lat ops rows c)) (next_ready rule lat ops rows prios c)

  -- `I@C,I@C..`: what is under way, each with the cycle at which its result arrives
  abbrev pub active_text : ℕ → List ℕ
  active_text c = pairs_text (codes "@") (paired (arrival lat ops rows) (under_way lat ops rows c))

  -- the last cycle of the line that begins with cycle c
  abbrev pub last_cycle : ℕ → ℕ
  last_cycle c = if is_idle rule lat ops rows c then next_busy rule lat ops rows c - 1 else c

  -- `cycle C ready J:P,J:P.. takes X ; Y next J held H active I@C,I@C..`
  abbrev pub cycle_line : ℕ → List ℕ
  cycle_line c =
      codes "cycle " ++ span_text c (last_cycle c) ++ codes " ready " ++ ready_text c ++ taken_text c
      ++ codes " active " ++ active_text c ++ codes "\n"

  -- whether nothing is ready at the cycle before
  abbrev pub is_idle_before : ℕ → Bool
  is_idle_before zero = false
  is_idle_before (suc c) = is_idle rule lat ops rows c

  -- whether a line begins with cycle c: of cycles in a row at which nothing is ready the first alone begins one
  abbrev pub begins_line : ℕ → Bool
  begins_line c = not (is_idle_before c && is_idle rule lat ops rows c)

  abbrev pub line_from : ℕ → List ℕ
  line_from c = if begins_line c then cycle_line c else []

  abbrev pub cycle_lines : List ℕ
  cycle_lines = flat_map line_from (range_with_len 0 (length rows))

-- What is listed of the operations `ops` in `rows`, a schedule by `rule` that the priorities `prios` rank: a line for
-- each cycle, and the cycles with their lower `bound`.
abbrev pub ready_listing : List ℕ → MemoryRule → Latencies → ℕ → List Op → List Row → List ℕ
ready_listing prios rule lat bound ops rows =
    cycle_lines prios rule lat ops rows ++ cycles_line (cycles lat ops rows) bound
