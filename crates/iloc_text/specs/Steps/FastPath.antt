-- How operations are read on the fast path.
use Rattle.std.specs.Prelude.{ℕ, ◌≡◌, ◌+◌, ◌*◌, ◌-◌, ◌^◌, ◌++◌, Option, Some, None, option_to_list, List, [], ◌∷◌, length}
use Rattle.std.specs.Simd.Lanes.{number_l}
use Rattle.iloc_ops.specs.declared.forms.Opcode.{Opcode}
use Rattle.iloc_ops.specs.declared.forms.Opcode.TheVariants.{Load, LoadI, Store, Add, Sub, Mult, Lshift, Rshift, Output, Nop, StoreAI}
use Rattle.iloc_ops.specs.Forms.{Operand, ◌▹◌, opcode_text}
use Rattle.iloc_ops.specs.Forms.Lead.{space, comma, arrow}
use Rattle.iloc_ops.specs.Forms.Value.{Use, Constant}
use Rattle.iloc_text.specs.declared.line.shape.Kind.{Kind}
use Rattle.iloc_text.specs.declared.line.shape.Kind.TheVariants.{Nothing, BlankRegister, BlankConstant, CommaRegister, CommaConstant, ArrowRegister}
use Rattle.iloc_text.specs.declared.line.shape.Lead.{Lead}
use Rattle.iloc_text.specs.declared.line.shape.Shape.{Shape}
use Rattle.iloc_text.specs.declared.line.shape.Text.{Text}
use Rattle.iloc_text.specs.Steps.Digits.{Keeps}
use Rattle.iloc_text.specs.Steps.Scan.{number_at, operand_at}

-- what is read after it, with 0 for the number
abbrev pub operand_of : Kind → Option Operand
operand_of Nothing = None
operand_of BlankRegister = Some (space ▹ Use (record { 0 = 0 }))
operand_of BlankConstant = Some (space ▹ Constant 0)
operand_of CommaRegister = Some (comma ▹ Use (record { 0 = 0 }))
operand_of CommaConstant = Some (comma ▹ Constant 0)
operand_of ArrowRegister = Some (arrow ▹ Use (record { 0 = 0 }))

-- how it is mostly written, with this byte for the first blank
abbrev pub written : Kind → ℕ → List ℕ
written Nothing blank = []
written BlankRegister blank = blank ∷ 114 ∷ []
written BlankConstant blank = blank ∷ []
written CommaRegister blank = 44 ∷ blank ∷ 114 ∷ []
written CommaConstant blank = 44 ∷ blank ∷ []
written ArrowRegister blank = blank ∷ 61 ∷ 62 ∷ 32 ∷ 114 ∷ []

-- how it is written without blanks, where there can be none
abbrev pub tight : Kind → List ℕ
tight CommaRegister = 44 ∷ 114 ∷ []
tight CommaConstant = 44 ∷ []
tight ArrowRegister = 61 ∷ 62 ∷ 114 ∷ []
tight k = written k 32

abbrev pub text_of : List ℕ → Text
text_of bytes = record { word = number_l 256 bytes; mask = 2 ^ (8 * length bytes) - 1; length = length bytes }

-- what is looked at of the byte behind it, and the mask of that: the high half of a digit, before a constant
abbrev pub next : Kind → ℕ × ℕ
next BlankConstant = (48, 240)
next CommaConstant = (48, 240)
next _ = (0, 0)

abbrev pub lead_text : Kind → List ℕ → Text
lead_text k bytes = record {
  word = number_l 256 (bytes ++ (next k).0 ∷ []);
  mask = 2 ^ (8 * length bytes) - 1 + 2 ^ (8 * length bytes) * (next k).1;
  length = length bytes;
}

abbrev pub lead_of : Kind → Lead
lead_of k = record {
  kind = k;
  usual = lead_text k (written k 32);
  tabbed = (lead_text k (written k 9)).word;
  tight = lead_text k (tight k);
}

abbrev pub shaped : List ℕ → Kind → Kind → Kind → Shape
shaped text first second third = record {
  text = text_of text;
  first = lead_of first;
  second = lead_of second;
  third = lead_of third;
}

abbrev pub shape_of : Opcode → Shape
shape_of Load = shaped (opcode_text Load) BlankRegister ArrowRegister Nothing
shape_of LoadI = shaped (opcode_text LoadI) BlankConstant ArrowRegister Nothing
shape_of Store = shaped (opcode_text Store) BlankRegister ArrowRegister Nothing
shape_of Add = shaped (opcode_text Add) BlankRegister CommaRegister ArrowRegister
shape_of Sub = shaped (opcode_text Sub) BlankRegister CommaRegister ArrowRegister
shape_of Mult = shaped (opcode_text Mult) BlankRegister CommaRegister ArrowRegister
shape_of Lshift = shaped (opcode_text Lshift) BlankRegister CommaRegister ArrowRegister
shape_of Rshift = shaped (opcode_text Rshift) BlankRegister CommaRegister ArrowRegister
shape_of Output = shaped (opcode_text Output) BlankConstant Nothing Nothing
shape_of Nop = shaped (opcode_text Nop) Nothing Nothing Nothing
shape_of StoreAI = shaped (opcode_text StoreAI) BlankRegister ArrowRegister CommaConstant
shape_of o = shaped (opcode_text o) BlankRegister CommaConstant ArrowRegister

-- the operands by which such an operation is read
abbrev pub operands_by : Shape → List Operand
operands_by s = option_to_list (operand_of s.first.kind) ++ option_to_list (operand_of s.second.kind) ++ option_to_list (operand_of s.third.kind)

-- what is found in a text: the number of an operand, and, where there is none, some number, with nothing passed
abbrev pub IsFound : Option Operand → List ℕ → ℕ × List ℕ → Type 0
IsFound None text found = found.1 ≡ text
IsFound (Some o) text found = operand_at o text ≡ Some found

abbrev pub IsRead : Kind → List ℕ → ℕ × List ℕ → Type 0
IsRead k = IsFound (operand_of k)

-- the same behind what precedes the number
abbrev pub IsBehind : Kind → List ℕ → ℕ × List ℕ → Type 0
IsBehind Nothing text found = found.1 ≡ text
IsBehind _ text found = number_at text ≡ Some found

-- a mask that leaves how many digits its number has as it is, where there is one, and else leaves nothing
abbrev pub IsMaskOf : Kind → ℕ → Type 0
IsMaskOf Nothing mask = mask ≡ 0
IsMaskOf _ mask = Keeps mask
