-- What was read of a text, parts of which are read apart.
use Rattle.std.specs.Prelude.{◌≡◌, ℕ, List, [], ◌∷◌, ◌++◌}
use Rattle.std.specs.List.{flat_map}
use Rattle.iloc_text.specs.declared.reader.copies.Copies.{Copies}
use Rattle.iloc_text.specs.declared.stream.parts.PartedText.{PartedText}
use Rattle.iloc_text.specs.Steps.Copied.{all_of, has_copied}
use Rattle.iloc_text.specs.Steps.TextReads.{HasRead}

-- a part with the line end behind it
abbrev pub ended : List ℕ → List ℕ
ended part = part ++ 10 ∷ []

-- what was read, and behind it the parts that are being read, are this text
pub record HasBegun {P : Type 0} (texts : P → List (List ℕ)) (parted : PartedText P) (text : List ℕ) : Type 0 where
  pub start : Copies
  pub none : all_of start ≡ []
  pub done : List ℕ
  pub read : HasRead has_copied start parted.reader done
  pub whole : text ≡ done ++ flat_map ended (texts parted.readers)

-- with the rest behind them they are this text
pub record HasCome {P : Type 0} (texts : P → List (List ℕ)) (parted : PartedText P) (text : List ℕ) : Type 0 where
  pub front : List ℕ
  pub begun : HasBegun texts parted front
  pub whole : text ≡ front ++ parted.rest.items
