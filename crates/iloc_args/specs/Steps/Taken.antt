-- The matches of arguments that the parser has taken.
use Rattle.std.specs.Prelude.{ℕ, ◌≤◌, List, [], ◌∷◌, IfSome, codes, unwrap_or}
use Rattle.std.specs.Str.Parse.{IsNumeral, without_leading_plus}
use Rattle.clap.specs.Words.{Row, Text, many_of, one_of}
use Rattle.iloc_meaning.specs.Address.{LAST_ADDRESS}
use Rattle.iloc_timed.specs.Limits.{LONGEST_LATENCY}
use Rattle.iloc_args.specs.Asked.{number_of}

-- `text` writes a number from `low` to `high`
pub record IsNumberIn (low high : ℕ) (text : Text) : Type 0 where
  pub numeral : IsNumeral 10 (without_leading_plus text)
  pub at_least : low ≤ number_of text
  pub at_most : number_of text ≤ high

-- each text does
abbrev pub AreNumbersIn : ℕ → ℕ → List Text → Type 0
AreNumbersIn low high [] = Unit {0}
AreNumbersIn low high (text ∷ rest) = IsNumberIn low high text × AreNumbersIn low high rest

-- the matches have nothing for an option, or a number within its bounds
abbrev pub HoldsIn : ℕ → ℕ → Text → List Row → Type 0
HoldsIn low high id rows = IfSome (one_of id rows) (IsNumberIn low high)

-- each option that the matches have is in its range, and each word has 32 bits
pub record HoldValues (rows : List Row) : Type 0 where
  pub workers : HoldsIn 1 8 (codes "workers") rows
  pub at : HoldsIn 0 LAST_ADDRESS (codes "at") rows
  pub words : AreNumbersIn 0 4294967295 (unwrap_or (many_of (codes "words") rows) [])
  pub load : HoldsIn 1 LONGEST_LATENCY (codes "load") rows
  pub store : HoldsIn 1 LONGEST_LATENCY (codes "store") rows
  pub mult : HoldsIn 1 LONGEST_LATENCY (codes "mult") rows
  pub nodes : HoldsIn 0 100000 (codes "nodes") rows
