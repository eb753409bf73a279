-- How far a line reads: the place of the caret.
use Rattle.std.specs.Prelude.{ℕ, ◌≤◌, Option, None, List, ◌++◌, length, take}
use Rattle.iloc_ops.specs.declared.op.Op.{Op}
use Rattle.iloc_text.specs.Grammar.{◌⋅◌, Blanks, OptionalLabel, Reads}

-- some line without a label that reads begins so
abbrev pub BeginsALine : List ℕ → Type 0
BeginsALine front = (tail : List ℕ) × (op : Option Op) × Reads (front ++ tail) None op

-- a whole label, or none, and then what such a line begins with
abbrev pub ReadsSoFar : List ℕ → Type 0
ReadsSoFar front = (label : Option (List ℕ)) × (Blanks ⋅ OptionalLabel label ⋅ BeginsALine) front

-- how long the longest prefix is that reads so far
pub record IsPlace (line : List ℕ) (at : ℕ) : Type 0 where
  pub within : at ≤ length line
  pub reads : ReadsSoFar (take at line)
  pub longest : (k : ℕ) → k ≤ length line → ReadsSoFar (take k line) → k ≤ at
