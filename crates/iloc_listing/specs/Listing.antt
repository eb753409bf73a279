-- The listings: of outcomes, of schedules and of their cycles.
use Rattle.std.specs.Prelude.{ℕ, ◌+◌, ◌==◌, Bool, true, false, ◌&&◌, if◌then◌else◌, List, [], ◌∷◌, ◌++◌, map, sum, sum_by, Option, Some, None, is_none, ℤ, codes}
use Rattle.std.specs.List.{flat_map, list_all}
use Rattle.std.specs.Fmt.{decimal, signed_decimal}
use Rattle.iloc_ops.specs.Columns.{column}
use Rattle.iloc_ops.specs.declared.file.Block.{Block}
use Rattle.iloc_meaning.specs.declared.outcome.Outcome.{Outcome}
use Rattle.iloc_meaning.specs.Outcome.{shown}
use Rattle.iloc_timed.specs.declared.latencies.Latencies.{Latencies}
use Rattle.iloc_timed.specs.declared.row.Row.{Row}
use Rattle.iloc_timed.specs.Cycles.{cycles}
use Rattle.iloc_timed.specs.Schedule.{Table}
use Rattle.iloc_timed.specs.Spelling.{row_line}
use Rattle.iloc_listing.specs.declared.text.ScheduleEntry.{ScheduleEntry}

-- Blocks

-- the name of a block, `-` where it has none
abbrev pub shown_name : Option (List ℕ) → List ℕ
shown_name None = codes "-"
shown_name (Some name) = name

-- `block K NAME`
abbrev pub block_head : ℕ → Option (List ℕ) → List ℕ
block_head k name = codes "block " ++ decimal k ++ codes " " ++ shown_name name

-- What is listed of blocks, one by one and numbered from k on: for each the `entry` of its number, its name and what
-- belongs to it.
abbrev pub entries : {X : Type 0} → (entry : ℕ → Option (List ℕ) → X → List ℕ) → ℕ → List Block → List X → List ℕ
entries entry k [] items = []
entries entry k (block ∷ blocks) [] = []
entries entry k (block ∷ blocks) (item ∷ items) = entry k block.name item ++ entries entry (k + 1) blocks items

-- Outcomes

-- a word on a line of its own, as a signed decimal
abbrev pub word_line : ℤ → List ℕ
word_line word = signed_decimal word ++ codes "\n"

-- the emitted words, each on its line, or `fault` in their place
abbrev pub words_or_fault : Option (List ℤ) → List ℕ
words_or_fault None = codes "fault\n"
words_or_fault (Some words) = flat_map word_line words

abbrev pub shown_entry : ℕ → Option (List ℕ) → Option (List ℤ) → List ℕ
shown_entry k name words = block_head k name ++ codes "\n" ++ words_or_fault words

abbrev pub outcome_entry : ℕ → Option (List ℕ) → Outcome → List ℕ
outcome_entry k name outcome = shown_entry k name (shown outcome)

-- the listing of a file's blocks with their outcomes
abbrev pub outcomes_listing : List Block → List Outcome → List ℕ
outcomes_listing blocks outcomes = entries outcome_entry 1 blocks outcomes

-- Schedules

abbrev pub cycles_of : Latencies → Table → ℕ
cycles_of lat s = cycles lat s.ops s.rows

-- whether no operation is issued in a row
abbrev pub is_empty : Row → Bool
is_empty row = is_none row.zero && is_none row.one

-- rows up to the last that holds an operation
abbrev pub held_rows : List Row → List Row
held_rows [] = []
held_rows (row ∷ rows) = if list_all is_empty (row ∷ rows) then [] else row ∷ held_rows rows

-- `block K NAME`, a line for each row up to the last that holds an operation, `cycles C`
abbrev pub schedule_lines : ℕ → Option (List ℕ) → Table → ℕ → List ℕ
schedule_lines k name s cycles =
    block_head k name ++ codes "\n" ++ flat_map (row_line s.ops) (held_rows s.rows)
    ++ codes "cycles " ++ decimal cycles ++ codes "\n"

abbrev pub schedule_entry : Latencies → ℕ → Option (List ℕ) → Table → List ℕ
schedule_entry lat k name s = schedule_lines k name s (cycles_of lat s)

-- the comment that follows the cycles where a bound on them is known: the bound, and whether they reach it
abbrev pub bound_comment : Option ℕ → ℕ → List ℕ
bound_comment None cycles = []
bound_comment (Some bound) cycles =
    codes "// bound " ++ decimal bound ++ (if cycles == bound then codes " optimal\n" else codes "\n")

-- Tables of comma-separated values

-- how the entry of a block begins: `K,NAME` in a table, and else `block K NAME`
abbrev pub head_as : Bool → ℕ → Option (List ℕ) → List ℕ
head_as true k name = decimal k ++ codes "," ++ shown_name name
head_as false k name = block_head k name

-- a number with its label: `,N` in a table, and else ` LABEL N`
abbrev pub field : Bool → List ℕ → ℕ → List ℕ
field true label n = codes "," ++ decimal n
field false label n = column label n

-- a table has its header before the first row
abbrev pub opening_as : Bool → List ℕ → List ℕ
opening_as csv header = if csv then header else []

-- Totals

-- the cycles of all schedules together
abbrev pub total_cycles : Latencies → List Table → ℕ
total_cycles lat schedules = sum_by (cycles_of lat) schedules

-- `total C`
abbrev pub total_of : ℕ → List ℕ
total_of cycles = codes "total " ++ decimal cycles ++ codes "\n"

-- the same of the sum of `cycles`
abbrev pub total_of_all : List ℕ → List ℕ
total_of_all cycles = total_of (sum cycles)

-- the texts of `entries`, and the cycles of all
abbrev pub listing_of_entries : List ScheduleEntry → List ℕ
listing_of_entries entries = flat_map (λ e. e.text) entries ++ total_of_all (map (λ e. e.cycles) entries)

abbrev pub total_line : Latencies → List Table → List ℕ
total_line lat schedules = total_of (total_cycles lat schedules)

-- the listing of a file's blocks with their schedules
abbrev pub schedules_listing : Latencies → List Block → List Table → List ℕ
schedules_listing lat blocks schedules =
    entries (schedule_entry lat) 1 blocks schedules ++ total_line lat schedules

-- `block K NAME cycles C`, or `K,NAME,C` in a table
abbrev pub count_line : Bool → ℕ → Option (List ℕ) → ℕ → List ℕ
count_line csv k name cycles = head_as csv k name ++ field csv (codes "cycles") cycles ++ codes "\n"

-- the line of a block with this schedule
abbrev pub count_entry : Latencies → ℕ → Option (List ℕ) → Table → List ℕ
count_entry lat k name s = count_line false k name (cycles_of lat s)

-- the listing of a file's blocks with the cycles of their schedules, which is no table
abbrev pub counts_listing : Latencies → List Block → List Table → List ℕ
counts_listing lat blocks schedules = entries (count_entry lat) 1 blocks schedules ++ total_line lat schedules

-- the header of a table of cycles
abbrev pub count_header : List ℕ
count_header = codes "block,name,cycles\n"

-- after the blocks `total C`, the sum of `cycles`; nothing in a table
abbrev pub count_ending : Bool → List ℕ → List ℕ
count_ending true cycles = []
count_ending false cycles = total_of_all cycles

-- the listing of a file's blocks whose schedules take `cycles`, as lines or as a table
abbrev pub listing_of_counts : (csv : Bool) → List Block → (cycles : List ℕ) → List ℕ
listing_of_counts csv blocks cycles =
    (opening_as csv count_header ++ entries (count_line csv) 1 blocks cycles) ++ count_ending csv cycles
