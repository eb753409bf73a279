-- Texts that are joined before they are written.
use Rattle.std.specs.Prelude.{◌≡◌, ℕ, List, ◌++◌, Option}
use Rattle.std.specs.Io.KnownBytes.{Appends}

-- a prefix of the buffer and the text after it was written, and the rest of them is in the buffer now
pub record Joins (old new : Option (List ℕ)) (before after text : List ℕ) : Type 0 where
  pub front : List ℕ
  pub whole : before ++ text ≡ front ++ after
  pub written : Appends old new front

-- the same where this is left of the text
pub record JoinsTo (old new : Option (List ℕ)) (before after text left : List ℕ) : Type 0 where
  pub front : List ℕ
  pub whole : before ++ text ≡ front ++ (after ++ left)
  pub written : Appends old new front
