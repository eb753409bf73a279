-- What the scanner finds of a line of a schedule.
use Rattle.std.specs.Prelude.{ℕ, nat_lt, Bool, true, ◌&&◌, ◌==◌, if◌then◌else◌, Option, Some, None, unwrap_or, List, [], ◌∷◌, codes}
use Rattle.std.specs.Str.{bytes_eq}
use Rattle.std.specs.Char.{is_ascii_alphabetic}
use Rattle.iloc_text.specs.declared.line.scan.TheConstants.{ABOVE_LIMIT}
use Rattle.iloc_ops.specs.declared.op.Op.{Op}
use Rattle.iloc_ops.specs.declared.op.Op.TheVariants.{Nop}
use Rattle.iloc_text.specs.Grammar.{is_word_byte}
use Rattle.iloc_text.specs.Steps.Scan.{◌>>=◌, after_blanks, some_blanks_at, number_at, word_of, after_word, optional_operation_at, is_end, is_within}
use Rattle.iloc_text.specs.ScheduleLines.{Said, alone}
use Rattle.iloc_text.specs.ScheduleLines.Said.{nothing, row, head, cycles, total}

-- an operation with any blanks on both sides, or blanks alone
unfoldable pub slot_at : List ℕ → Option (Op × List ℕ)
slot_at bytes = do
  found ← optional_operation_at (after_blanks bytes)
  Some (unwrap_or found.0 Nop, after_blanks found.1)

-- what follows this byte
abbrev pub behind_byte : ℕ → List ℕ → Option (List ℕ)
behind_byte byte [] = None
behind_byte byte (c ∷ cs) = if c == byte then Some cs else None

-- the end of a row after its first operation: a second one where a semicolon was found
abbrev pub row_from : Op × List ℕ → Option (List ℕ) → Option (Said × List ℕ)
row_from first None = do
  rest ← behind_byte 93 first.1
  Some (row (alone first.0).0 (alone first.0).1, rest)
row_from first (Some middle) = do
  one ← slot_at middle
  rest ← behind_byte 93 one.1
  Some (row first.0 one.0, rest)

-- a row of which the bracket was read
unfoldable pub row_at : List ℕ → Option (Said × List ℕ)
row_at bytes = do
  first ← slot_at bytes
  row_from first (behind_byte 59 first.1)

-- a number after blanks
unfoldable pub number_behind : List ℕ → Option (ℕ × List ℕ)
number_behind bytes = some_blanks_at bytes >>= number_at

abbrev pub block_name_at : List ℕ → Option (Option (List ℕ) × List ℕ)
block_name_at [] = None
block_name_at (c ∷ cs) =
    if c == 45 then Some (None, cs)
    else (if is_ascii_alphabetic c then Some (Some (word_of (c ∷ cs)), after_word (c ∷ cs)) else None)

unfoldable pub head_at : List ℕ → Option (Said × List ℕ)
head_at bytes = do
  number ← number_behind bytes
  behind ← some_blanks_at number.1
  name ← block_name_at behind
  Some (head number.0 name.0, name.1)

unfoldable pub cycles_at : List ℕ → Option (Said × List ℕ)
cycles_at bytes = do
  number ← number_behind bytes
  Some (cycles number.0, number.1)

unfoldable pub total_at : List ℕ → Option (Said × List ℕ)
total_at bytes = do
  number ← number_behind bytes
  Some (total number.0, number.1)

-- what follows a word
abbrev pub worded_at : List ℕ → List ℕ → Option (Said × List ℕ)
worded_at word rest =
    if bytes_eq word (codes "block") then head_at rest
    else (if bytes_eq word (codes "cycles") then cycles_at rest
    else (if bytes_eq word (codes "total") then total_at rest else None))

-- what is said, or nothing if there is neither a bracket nor a word
unfoldable pub said_at : List ℕ → Option (Said × List ℕ)
said_at [] = Some (nothing, [])
said_at (c ∷ cs) =
    if c == 91 then row_at cs
    else (if is_word_byte c then worded_at (word_of (c ∷ cs)) (after_word (c ∷ cs)) else Some (nothing, c ∷ cs))

unfoldable pub schedule_line_at : List ℕ → Option Said
schedule_line_at bytes = do
  found ← said_at (after_blanks bytes)
  if is_end (after_blanks found.1) then Some found.0 else None

-- no number was capped
abbrev pub is_said_within : Said → Bool
is_said_within nothing = true
is_said_within (row zero one) = is_within (Some zero) && is_within (Some one)
is_said_within (head k name) = nat_lt k ABOVE_LIMIT
is_said_within (cycles c) = nat_lt c ABOVE_LIMIT
is_said_within (total t) = nat_lt t ABOVE_LIMIT
