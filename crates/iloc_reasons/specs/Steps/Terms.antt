-- Terms as the code has them: numbers for what operations have in common.
use Rattle.std.specs.Prelude.{ℕ, ◌+◌, ◌*◌, ◌%◌, ◌^◌, ◌≡◌, ◌<◌, List, length, fold, slice_index, Option, Some, None}
use Rattle.iloc_ops.specs.declared.op.Op.{Op}
use Rattle.iloc_ops.specs.declared.forms.Opcode.{Opcode}
use Rattle.iloc_ops.specs.Forms.{opcode, opcode_text}
use Rattle.iloc_meaning.specs.Trace.{op_at}
use Rattle.iloc_facts.specs.declared.reading.sources.Sources.{Sources}
use Rattle.iloc_facts.specs.declared.reading.sources.Sources.TheVariants as reads
use Rattle.iloc_facts.specs.Labels.{constant}
use Rattle.iloc_facts.specs.Readings.{sources_at}
use Rattle.iloc_reasons.specs.declared.terms.Values.{Values}
use Rattle.iloc_reasons.specs.declared.terms.Values.TheVariants.{Nothing, One, Two}

-- the odd number of two numbers in order
abbrev pub odd_of : ℕ → ℕ → ℕ
odd_of a b = (((a * 0x9E37_79B9_7F4A_7C15) % 2 ^ 64 + (b * 0xD6E8_FEB8_6659_FD93) % 2 ^ 64) % 2 ^ 64 * 2) % 2 ^ 64 + 1

-- a number for two numbers in order
abbrev pub mixed : ℕ → ℕ → ℕ
mixed a b = let odd = odd_of a b % 2 ^ 64 in (odd * odd % 2 ^ 64 * odd) % 2 ^ 64

-- a number for an opcode
abbrev pub opcode_number : Opcode → ℕ
opcode_number code = fold mixed 0 (opcode_text code)

-- a number for the label of an operation
abbrev pub label_number : Op → ℕ
label_number op = mixed (opcode_number (opcode op)) (constant op)

-- the number of what is read
abbrev pub value_of : List ℕ → Option ℕ → ℕ
value_of numbers None = 0
value_of numbers (Some s) = (slice_index numbers s + 1) % 2 ^ 64

abbrev pub values_of : List ℕ → Sources → Values
values_of numbers reads.Nothing = Nothing
values_of numbers (reads.One only) = One (value_of numbers only)
values_of numbers (reads.Two left right) = Two (value_of numbers left) (value_of numbers right)

-- a number with them behind it
abbrev pub behind : Values → ℕ → ℕ
behind Nothing n = n
behind (One only) n = mixed n only
behind (Two left right) n = mixed (mixed n left) right

-- the number of each operation is that of its label and of what it reads
abbrev pub AreTerms : List Op → List Sources → List ℕ → Type 0
AreTerms ops sources terms = (k : ℕ) → k < length ops
    → slice_index terms k ≡ behind (values_of terms (sources_at sources k)) (label_number (op_at ops k))
