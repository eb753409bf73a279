-- How operations are laid out by the code.
use Rattle.std.specs.Prelude.{ℕ, List, [], ◌++◌, ◌≤◌, Option, Some, None, slice_get}
use Rattle.std.specs.Fmt.{decimal}
use Rattle.iloc_ops.specs.declared.op.Op.{Op}
use Rattle.iloc_ops.specs.declared.spelling.layout.Word.{Word}
use Rattle.iloc_ops.specs.declared.spelling.layout.Layout.{Layout}
use Rattle.iloc_ops.specs.Forms.{numbers}
use Rattle.iloc_ops.specs.Spelling.{word_text}

-- a number and what precedes it, if there is one
abbrev pub operand_text : Word → Option ℕ → List ℕ
operand_text lead None = []
operand_text lead (Some n) = word_text lead ++ decimal n

-- the opcode and the operands that there are
abbrev pub laid_out : Layout → Op → List ℕ
laid_out layout op = word_text layout.opcode
    ++ (operand_text layout.first (slice_get (numbers op) 0)
    ++ (operand_text layout.second (slice_get (numbers op) 1)
    ++ operand_text layout.third (slice_get (numbers op) 2)))

-- no word is longer than its bytes
abbrev pub IsShort : Layout → Type 0
IsShort layout = (layout.opcode.length ≤ 8) × (layout.first.length ≤ 8) × (layout.second.length ≤ 8) × (layout.third.length ≤ 8)
