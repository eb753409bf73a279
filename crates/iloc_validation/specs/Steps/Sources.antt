-- What operations read, by other numbers.
use Rattle.std.specs.Prelude.{ℕ, option_map}
use Rattle.iloc_facts.specs.declared.reading.sources.Sources.{Sources}
use Rattle.iloc_facts.specs.declared.reading.sources.Sources.TheVariants.{Nothing, One, Two}

-- the same operations by other numbers
abbrev pub by_numbers : (ℕ → ℕ) → Sources → Sources
by_numbers f Nothing = Nothing
by_numbers f (One only) = One (option_map f only)
by_numbers f (Two left right) = Two (option_map f left) (option_map f right)
