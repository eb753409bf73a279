-- Schedules that do the same on every memory.
use Rattle.std.specs.Prelude.{◌≡◌, Bool, true, false, List, All, length, ℤ, FitsSigned}
use Rattle.std.specs.Int.{w32}
use Rattle.iloc_meaning.specs.declared.outcome.Outcome.{Outcome}
use Rattle.iloc_meaning.specs.Memory.{WORDS}
use Rattle.iloc_meaning.specs.Outcome.{shown}
use Rattle.iloc_timed.specs.declared.latencies.Latencies.{Latencies}
use Rattle.iloc_timed.specs.Schedule.{Table}
use Rattle.iloc_timed.specs.Timed.{timed_outcome}
use Rattle.iloc_terms.specs.declared.two_runs.Agreement.{Agreement}
use Rattle.iloc_terms.specs.declared.two_runs.Agreement.TheVariants.{Same, Prints, Unseen}

-- 16,384 words of 32 bits
pub record IsMemory (memory : List ℤ) : Type 0 where
  pub size : length memory ≡ WORDS
  pub fits : All (FitsSigned w32) memory

-- the outcomes are equal or, where outputs alone are compared, show the same: both are faults, or emit the same words
abbrev pub AreAlike : Bool → Outcome → Outcome → Type 0
AreAlike true got wanted = shown got ≡ shown wanted
AreAlike false got wanted = got ≡ wanted

-- `one` and `other` are alike on every memory
abbrev pub AlikeOnAll : Bool → Latencies → Table → Table → Type 0
AlikeOnAll outputs lat one other =
    (memory : List ℤ) → IsMemory memory
    → AreAlike outputs (timed_outcome lat one.ops one.rows memory) (timed_outcome lat other.ops other.rows memory)

-- What is seen of two schedules is so, where they are compared by outcomes or by outputs alone.
abbrev pub IsAgreement : Bool → Latencies → Table → Table → Agreement → Type 0
IsAgreement outputs lat one other Same = AlikeOnAll false lat one other
IsAgreement outputs lat one other Prints = (outputs ≡ true) × AlikeOnAll true lat one other
IsAgreement outputs lat one other (Unseen mentions) = Unit {0}
