-- Which schedules the lines of a listing propose for blocks: by counting over the lines.
use Rattle.std.specs.Prelude.{◌≡◌, ℕ, ◌+◌, ◌≤◌, max, nat_lt, nat_le, Bool, true, false, ◌&&◌, ◌||◌, ◌==◌, if◌then◌else◌, Option, Some, None, unwrap_or, List, [], ◌∷◌, ◌++◌, length, map}
use Rattle.std.specs.List.{filter_map, flat_map, list_any, range_with_len}
use Rattle.iloc_ops.specs.Limits.{MAX_OPS}
use Rattle.iloc_ops.specs.declared.op.Op.{Op}
use Rattle.iloc_ops.specs.declared.op.Op.TheVariants.{Nop}
use Rattle.iloc_ops.specs.declared.file.Block.{Block}
use Rattle.iloc_text.specs.ScheduleLines.Said.{nothing, row, head, cycles, total}
use Rattle.iloc_timed.specs.Schedule.{AreInRange, AreOnce}
use Rattle.iloc_timed.specs.declared.row.Row.{Row}
use Rattle.iloc_rows.specs.declared.proposal.Proposed.{Proposed}
use Rattle.iloc_rows.specs.declared.proposal.unread.Unread.{Unread}
use Rattle.iloc_rows.specs.Names.{is_named}
use Rattle.iloc_rows.specs.Told.{Told}
use Rattle.iloc_rows.specs.Told.Told.{read, unread}

-- Whose lines they are

-- the last of a list
abbrev pub last_of : {A : Type 0} → List A → Option A
last_of [] = None
last_of (x ∷ []) = Some x
last_of (x ∷ y ∷ xs) = last_of (y ∷ xs)

-- the lines up to the first, up to the second, and so on
abbrev pub fronts : List Told → List (List Told)
fronts [] = []
fronts (s ∷ ss) = (s ∷ []) ∷ map (λ front. s ∷ front) (fronts ss)

-- the number in a head, also in one by another name
abbrev pub head_number : Told → Option ℕ
head_number (read nothing) = None
head_number (read (row zero one)) = None
head_number (read (head k name)) = Some k
head_number (read (cycles c)) = None
head_number (read (total t)) = None
head_number (unread turn n text) = turn

-- the number in the last head, 0 where there is none
unfoldable pub last_head : List Told → ℕ
last_head lines = unwrap_or (last_of (filter_map head_number lines)) 0

-- whether a line says something of a block without naming it: a row or a number of cycles
abbrev pub proposes : Told → Bool
proposes (read nothing) = false
proposes (read (row zero one)) = true
proposes (read (head k name)) = false
proposes (read (cycles c)) = true
proposes (read (total t)) = false
proposes (unread turn n text) = false

-- the number of the block of which something has been said last: that in the last head, 1 where it is said without a head, and 0
-- where nothing is. A line that can't be read says nothing.
unfoldable pub last_block : List Told → ℕ
last_block lines = max (last_head lines) (if list_any proposes lines then 1 else 0)

-- the number of the block of which the last line is: without a head the first
abbrev pub block_of : List Told → ℕ
block_of lines = max 1 (last_block lines)

-- what is picked of the last line
abbrev pub of_last : {A : Type 0} → (Told → Option A) → List Told → Option A
of_last pick [] = None
of_last pick (s ∷ []) = pick s
of_last pick (s ∷ t ∷ ss) = of_last pick (t ∷ ss)

-- what is picked of the lines of block k, in order
unfoldable pub picked : {A : Type 0} → (Told → Option A) → ℕ → List Told → List A
picked pick k lines = filter_map (λ front. if block_of front == k then of_last pick front else None) (fronts lines)

-- Rows

-- the operations of a row, on unit 0 and on unit 1; a line that can't be read is taken for an empty one
abbrev pub row_in : Told → Option (Op × Op)
row_in (read nothing) = None
row_in (read (row zero one)) = Some (zero, one)
row_in (read (head k name)) = None
row_in (read (cycles c)) = None
row_in (read (total t)) = None
row_in (unread turn n text) = Some (Nop, Nop)

-- of a row: its line's number and text, if it can't be read
abbrev pub unread_in : Told → Option (Option (ℕ × List ℕ))
unread_in (read nothing) = None
unread_in (read (row zero one)) = Some None
unread_in (read (head k name)) = None
unread_in (read (cycles c)) = None
unread_in (read (total t)) = None
unread_in (unread turn n text) = Some (Some (n, text))

-- a number of cycles
abbrev pub cycles_in : Told → Option ℕ
cycles_in (read nothing) = None
cycles_in (read (row zero one)) = None
cycles_in (read (head k name)) = None
cycles_in (read (cycles c)) = Some c
cycles_in (read (total t)) = None
cycles_in (unread turn n text) = None

-- the rows of block k, which of them can't be read, and the numbers of cycles that are said of it
abbrev pub rows_of : ℕ → List Told → List (Op × Op)
rows_of k lines = picked row_in k lines

abbrev pub unread_of : ℕ → List Told → List (Option (ℕ × List ℕ))
unread_of k lines = picked unread_in k lines

abbrev pub claims_of : ℕ → List Told → List ℕ
claims_of k lines = picked cycles_in k lines

-- a `nop` is written for an empty slot
abbrev pub is_empty : Op → Bool
is_empty Nop = true
is_empty _ = false

-- the operation in a slot, if it isn't empty
abbrev pub filled : Op → List Op
filled op = if is_empty op then [] else op ∷ []

-- the operations of rows, in order, in each that on unit 0 first
abbrev pub ops_in : List (Op × Op) → List Op
ops_in rows = flat_map (λ r. filled r.0 ++ filled r.1) rows

-- a slot whose operation is the next after n
abbrev pub slot : ℕ → Op → Option ℕ
slot n op = if is_empty op then None else Some n

-- the rows with numbers in place of operations, after n operations: each operation in its own slot, in order
abbrev pub numbered : ℕ → List (Op × Op) → List Row
numbered n [] = []
numbered n (r ∷ rs) =
    record { zero = slot n r.0; one = slot (n + length (filled r.0)) r.1 }
    ∷ numbered (n + length (filled r.0 ++ filled r.1)) rs

-- the first row that can't be read, after n rows
abbrev pub first_unread : ℕ → List (Option (ℕ × List ℕ)) → Option Unread
first_unread n [] = None
first_unread n (None ∷ rows) = first_unread (n + 1) rows
first_unread n (Some line ∷ rows) = Some record { line = line.0; row = n; text = line.1 }

-- what the lines propose for block k
abbrev pub proposal_of : List Told → ℕ → Proposed
proposal_of lines k = record {
  ops = ops_in (rows_of k lines);
  rows = numbered 0 (rows_of k lines);
  claimed = last_of (claims_of k lines);
  unread = first_unread 0 (unread_of k lines);
}

-- what `lines` propose for `count` blocks
abbrev pub proposals_of : ℕ → List Told → List Proposed
proposals_of count lines = map (proposal_of lines) (range_with_len 1 count)

-- each number in the rows is that of an operation, and each operation is in exactly one slot
abbrev pub IsNumbered : Proposed → Type 0
IsNumbered p = AreInRange (length p.ops) p.rows × AreOnce (length p.ops) p.rows

-- Which lines fit the blocks

-- After `lines` a line speaks of a block that is there: a head, also by another name, names a later block than the last
-- of which something has been said; a row, a number of cycles or a line that can't be read comes below a head, or there
-- is one block only.
abbrev pub is_of_block : List Block → List Told → Told → Bool
is_of_block blocks lines (read nothing) = true
is_of_block blocks lines (read (row zero one)) = nat_lt 0 (last_block lines) || (length blocks == 1)
is_of_block blocks lines (read (head k name)) = nat_lt (last_block lines) k && is_named blocks k name
is_of_block blocks lines (read (cycles c)) = nat_lt 0 (last_block lines) || (length blocks == 1)
is_of_block blocks lines (read (total t)) = true
is_of_block blocks lines (unread None n text) = nat_lt 0 (last_block lines) || (length blocks == 1)
is_of_block blocks lines (unread (Some k) n text) = nat_lt (last_block lines) k && nat_le k (length blocks)

-- how many operations the rows of its block have with this one, where the line is a row that was read
abbrev pub op_count : List Told → Told → ℕ
op_count lines (read nothing) = 0
op_count lines (read (row zero one)) = length (ops_in (rows_of (block_of lines) lines ++ (zero, one) ∷ []))
op_count lines (read (head k name)) = 0
op_count lines (read (cycles c)) = 0
op_count lines (read (total t)) = 0
op_count lines (unread turn n text) = 0

-- the line speaks of a block that is there, and its row makes no more than 10,000 operations
pub record Fits (blocks : List Block) (lines : List Told) (line : Told) : Type 0 where
  pub of_block : is_of_block blocks lines line ≡ true
  pub few : op_count lines line ≤ MAX_OPS

-- so does each further line
abbrev pub AllFit : List Block → List Told → List Told → Type 0
AllFit blocks lines [] = Unit {0}
AllFit blocks lines (s ∷ ss) = Fits blocks lines s × AllFit blocks (lines ++ s ∷ []) ss
