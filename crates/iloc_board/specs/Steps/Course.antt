-- How far a worker's run has gone, by what may be left of it.
use Rattle.std.specs.Prelude.{◌≡◌, ℕ, ◌+◌, ◌*◌, ◌-◌, ◌≤◌, List, length}
use Rattle.iloc_board.specs.declared.step.Entry.{Entry}
use Rattle.iloc_board.specs.declared.board.state.State.{State}
use Rattle.iloc_board.specs.declared.board.state.State.TheVariants.{Free, Looked, Holding}
use Rattle.iloc_board.specs.declared.step.Journal.{Journal}
use Rattle.iloc_board.specs.Journal.{seen, state_of, handed}
use Rattle.iloc_board.specs.Views.{PassView}
use Rattle.iloc_board.specs.Working.{stales, Extends}

-- how many entries may be left for a worker in this state that has seen so much
abbrev pub left_in : ℕ → ℕ → State → ℕ
left_in count low Free = 3 * (count - low) + 1
left_in count low (Looked k) = 3 * (count - k)
left_in count low (Holding k) = 3 * (count - k) - 1

abbrev pub left : ℕ → Journal → ℕ
left count j = left_in count (seen count j) (state_of j.entries)

-- how many of them may come too late
abbrev pub slack_in : ℕ → ℕ → State → ℕ
slack_in count low Free = count - low
slack_in count low (Looked k) = count - k
slack_in count low (Holding k) = count - low

abbrev pub slack : ℕ → Journal → ℕ
slack count j = slack_in count (seen count j) (state_of j.entries)

-- what was added is paid from what was left, and this much is over
pub record Pays (count : ℕ) (j t : Journal) (entries late : ℕ) : Type 0 where
  pub added : List Entry
  pub adds : Extends j t added
  pub few : length added + entries ≤ left count j
  pub stale : stales added + late ≤ slack count j

-- on the way: what is left for the second journal is over
abbrev pub Goes : ℕ → Journal → Journal → Type 0
Goes count j t = Pays count j t (left count t) (slack count t)

-- at the end: no more was added than was left
abbrev pub Ended : ℕ → Journal → Journal → Type 0
Ended count j t = Pays count j t 0 0

-- nothing was handed back in between
pub record HandsNothing {J A : Type 0} (p q : PassView J A) : Type 0 where
  pub answers : q.answers ≡ p.answers
  pub each : handed q.journal.entries ≡ handed p.journal.entries
