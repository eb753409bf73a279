-- A list in order.
use Rattle.std.specs.Prelude.{ℕ, List, Contains}
use Rattle.std.specs.List.Sorted.{IsStrictlyIncreasing}

-- the second list has the numbers of the first, rising, each once
pub record IsInOrder (listed sorted : List ℕ) : Type 0 where
  pub rises : IsStrictlyIncreasing sorted
  pub from : (i : ℕ) → Contains sorted i → Contains listed i
  pub all : (i : ℕ) → Contains listed i → Contains sorted i
