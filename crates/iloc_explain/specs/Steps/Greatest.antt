-- The place of the greatest of some numbers.
use Rattle.std.specs.Prelude.{ℕ, ◌<◌, ◌≤◌, List, length, slice_index}

-- no number before place n is greater than the one at place i, and each before it is less
pub record IsGreatestTo (numbers : List ℕ) (n i : ℕ) : Type 0 where
  pub known : i < length numbers
  pub most : (k : ℕ) → k < n → slice_index numbers k ≤ slice_index numbers i
  pub first : (k : ℕ) → k < i → slice_index numbers k < slice_index numbers i

-- no number is greater than the one at place i, and each before it is less
abbrev pub IsPlaceOfGreatest : List ℕ → ℕ → Type 0
IsPlaceOfGreatest numbers i = IsGreatestTo numbers (length numbers) i
