-- Refusals as the code has them.
use Rattle.std.specs.Prelude.{◌≡◌, ℕ, List, length, map, take}
use Rattle.iloc_lint.specs.Faults.{Refusal}
use Rattle.iloc_lint.specs.declared.refused.Refused.{Refused}
use Rattle.iloc_lint.specs.declared.refused.Refusals.{Refusals}

abbrev pub refusal_of : Refused → Refusal
refusal_of refused = record { line = refused.line.now; fault = refused.fault }

abbrev pub refusals_of : List Refused → List Refusal
refusals_of faults = map refusal_of faults

-- how many refusals are listed
abbrev pub MOST_LISTED : ℕ
MOST_LISTED = 1000

-- the first of `refusals` are kept, as many as are listed, and all are counted
pub record AreKept (refusals : List Refusal) (kept : Refusals) : Type 0 where
  pub first : refusals_of kept.first.items ≡ take MOST_LISTED refusals
  pub count : kept.count ≡ length refusals
