-- What the scanner says of a line, held against the grammar.
use Rattle.std.specs.Prelude.{◌≡◌, ℕ, List, ◌∷◌, Option, option_map, Result, Ok, Err}
use Rattle.std.specs.Borrow.{Bor}
use Rattle.iloc_text.specs.declared.line.Line.{Line}
use Rattle.iloc_text.specs.declared.line.ParseFault.{ParseFault}
use Rattle.iloc_text.specs.declared.line.ParseFault.TheVariants.{Bad, NumberTooLarge}
use Rattle.iloc_ops.specs.declared.op.Op.{Op}
use Rattle.iloc_text.specs.Grammar.{◌⋅◌, Blanks, OptionalOperation, OptionalComment, OptionalIsWithinLimit, Reads, HasReading, HasWideReading}
use Rattle.iloc_text.specs.Lines.{lines_of, lines_left}

abbrev pub label_of : Line → Option (List ℕ)
label_of line = option_map (λ name. name.now) line.label

-- a label and an operation that the line reads as, or why it has no reading
abbrev pub LineReads : List ℕ → Result Line ParseFault → Type 0
LineReads line (Ok found) = Reads line (label_of found) found.op
LineReads line (Err Bad) = HasWideReading line → ⊥
LineReads line (Err NumberTooLarge) = HasWideReading line × (HasReading line → ⊥)

-- the first line of the text is of the language, and what is left has the further lines
pub record FirstIs (P : List ℕ → Type 0) (text : List ℕ) (after : Option (Bor (List ℕ))) : Type 0 where
  pub line : List ℕ
  pub split : lines_of text ≡ line ∷ lines_left after
  pub is : P line

-- it says the operation or none, and nothing stands before that
abbrev pub FirstBody : List ℕ → Option Op → Option (Bor (List ℕ)) → Type 0
FirstBody text op after = FirstIs (OptionalOperation op ⋅ Blanks ⋅ OptionalComment) text after × OptionalIsWithinLimit op

-- what it reads as, or why it has no reading
abbrev pub FirstLine : List ℕ → Result (Line × Option (Bor (List ℕ))) ParseFault → Type 0
FirstLine text (Ok found) = FirstIs (λ line. LineReads line (Ok found.0)) text found.1
FirstLine text (Err fault) = (after : Option (Bor (List ℕ))) × FirstIs (λ line. LineReads line (Err fault)) text after
