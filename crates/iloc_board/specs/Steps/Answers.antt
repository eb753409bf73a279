-- Answers as the code of a pass and a root sees them.
use Rattle.std.specs.Prelude.{ℕ, List}

-- the answers, each behind its job, and how many there is capacity for
pub record AnswersView (A : Type 0) : Type 0 where
  pub pairs : List (ℕ × A)
  pub capacity : ℕ
