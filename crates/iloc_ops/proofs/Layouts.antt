-- Layouts, and how opcodes and operations are spelled.
use Rattle.std.proofs.Common.{◌≡◌, ◌≤◌, ◌<◌, length, get_or, append-nil, refl, arith}
use Rattle.std.specs.List.{AllByRecursion}
use denote.Enum.Declared.{tag_of}
use Rattle.iloc_ops.specs.contracts.forms.Opcode.{the_type}
use Rattle.iloc_ops.specs.declared.forms.Opcode.{Opcode}
use Rattle.iloc_ops.specs.declared.forms.Opcode.TheVariants as O
use Rattle.iloc_ops.specs.declared.op.Op.{Op}
use Rattle.iloc_ops.specs.declared.op.Op.TheVariants.{Nop}
use Rattle.iloc_ops.specs.declared.spelling.layout.Layout.{Layout}
use Rattle.iloc_ops.specs.declared.spelling.layout.TheConstants.{LAYOUTS}
use Rattle.iloc_ops.specs.Forms.{opcode, opcode_text}
use Rattle.iloc_ops.specs.Spelling.{spelling, word_text}
use Rattle.iloc_ops.specs.Steps.Laid.{laid_out}

-- an operation is laid out as it is spelled
pub laid_out_as_spelled : (op : Op) (other : Layout) → laid_out (get_or LAYOUTS (tag_of the_type (opcode op)) other) op ≡ spelling op
laid_out_as_spelled Nop other = refl
laid_out_as_spelled _ other = rw append-nil

-- the word of an opcode is its text
pub word_is_text : (o : Opcode) (other : Layout) → word_text (get_or LAYOUTS (tag_of the_type o) other).opcode ≡ opcode_text o
word_is_text O.Nop other = refl
word_is_text _ other = refl

pub word_is_short : (o : Opcode) (other : Layout)
    → (0 < (get_or LAYOUTS (tag_of the_type o) other).opcode.length) × ((get_or LAYOUTS (tag_of the_type o) other).opcode.length ≤ 7)
word_is_short O.Nop other = (omega arith, omega arith)
word_is_short _ other = (omega arith, omega arith)

pub word_is_of_bytes : (o : Opcode) (other : Layout) → (length (get_or LAYOUTS (tag_of the_type o) other).opcode.bytes ≡ 8)
    × AllByRecursion (λ b. b < 256) (get_or LAYOUTS (tag_of the_type o) other).opcode.bytes
word_is_of_bytes O.Nop other = (refl, (omega arith, (omega arith, (omega arith, (omega arith, (omega arith, (omega arith, (omega arith, (omega arith, tt)))))))))
word_is_of_bytes _ other = (refl, (omega arith, (omega arith, (omega arith, (omega arith, (omega arith, (omega arith, (omega arith, (omega arith, tt)))))))))
