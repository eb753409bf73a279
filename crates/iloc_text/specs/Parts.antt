-- Parts of a text that can be read apart.
use Rattle.std.specs.Prelude.{◌≡◌, ℕ, Option, None, Some, List, [], ◌∷◌, ◌++◌, length, IfOk}
use Rattle.iloc_ops.specs.declared.op.Op.{Op}
use Rattle.iloc_text.specs.Grammar.{Reads}
use Rattle.iloc_text.specs.declared.text_parts.Counted.{Counted}
use Rattle.iloc_text.specs.declared.text_parts.TextPart.{TextPart}
use Rattle.iloc_text.specs.Files.{AreLines, Denotes}
use Rattle.iloc_text.specs.Lines.{lines_of}

-- the first line has a label
pub record BeginsLabelled (text : List ℕ) : Type 0 where
  pub line : List ℕ
  pub more : List (List ℕ)
  pub are_lines : AreLines text (line ∷ more)
  pub name : List ℕ
  pub op : Option Op
  pub reads : Reads line (Some name) op

-- `text` denotes the file of `counted`, and has as many lines as it says
pub record IsCounted (text : List ℕ) (counted : Counted) : Type 0 where
  pub denotes : Denotes text counted.file.blocks
  pub lines : counted.lines ≡ length (lines_of text)

-- what was found of the part, where it isn't refused, holds of its text
abbrev pub IsReadApart : TextPart → Type 0
IsReadApart part = IfOk part.found (IsCounted part.text.items)

-- a part with `text` is to be read after the texts of `old`, or was given back, read
abbrev pub IsStarted : List (List ℕ) → List ℕ → List (List ℕ) → Option TextPart → Type 0
IsStarted old text new None = new ≡ old ++ text ∷ []
IsStarted old text new (Some part) = (new ≡ old) × (part.text.items ≡ text) × IsReadApart part
