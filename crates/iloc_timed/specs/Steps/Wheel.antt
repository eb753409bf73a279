-- What is under way on the wheel.
use Rattle.std.specs.Prelude.{ℕ, ◌+◌, ◌≡◌, ◌<◌, ◌≤◌, ◌==◌, if◌then◌else◌, List, [], ◌∷◌, ◌++◌, length, option_to_list}
use Rattle.iloc_timed.specs.declared.wheel.Pending.{Pending}
use Rattle.iloc_timed.specs.Limits.{LONGEST_LATENCY}
use Rattle.iloc_timed.specs.Timed.{Issued}
use Rattle.iloc_timed.specs.Wheel.{list_at}
use Rattle.iloc_timed.specs.Steps.Pending.{sent}

-- what is due at cycle c, in order of issue
abbrev pub due_at : ℕ → List Issued → List Pending
due_at c [] = []
due_at c (e ∷ earlier) = due_at c earlier ++ (if e.due == c then option_to_list (sent e.executed) else [])

-- the lists of the cycles from c on, as many as a latency may have, have what is due then
pub record AreUnderWay (c : ℕ) (log : List Issued) (lists : List (List Pending)) : Type 0 where
  pub count : length lists ≡ LONGEST_LATENCY
  pub due : (d : ℕ) → c ≤ d → d < c + LONGEST_LATENCY → list_at lists d ≡ due_at d log
