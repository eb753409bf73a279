-- What a worker's run does.
use Rattle.std.specs.Prelude.{◌≡◌, ℕ, ◌+◌, ◌*◌, ◌≤◌, true, List, [], ◌∷◌, ◌++◌, length}
use Rattle.iloc_board.specs.declared.step.Step.{Step}
use Rattle.iloc_board.specs.declared.step.Reply.{Reply}
use Rattle.iloc_board.specs.declared.step.Reply.TheVariants.{Block, NoneLeft, Took, Stale, Handed, NotNow}
use Rattle.iloc_board.specs.declared.step.Entry.{Entry}
use Rattle.iloc_board.specs.declared.board.state.State.TheVariants.{Free}
use Rattle.iloc_board.specs.declared.step.Journal.{Journal}
use Rattle.iloc_board.specs.Core.{entry}
use Rattle.iloc_board.specs.Journal.{state_of, saw_none, handed}
use Rattle.iloc_board.specs.Views.{PassView}
use Rattle.iloc_board.specs.Finished.{AllFit, priced}

abbrev pub one_if_stale : Reply → ℕ
one_if_stale (Block k) = 0
one_if_stale NoneLeft = 0
one_if_stale (Took k) = 0
one_if_stale (Stale k) = 1
one_if_stale Handed = 0
one_if_stale NotNow = 0

-- how many entries of a list came too late
abbrev pub stales : List Entry → ℕ
stales [] = 0
stales (e ∷ es) = one_if_stale e.reply + stales es

-- the journal `t` is `j` with the entries `added`
pub record Extends (j t : Journal) (added : List Entry) : Type 0 where
  pub worker : t.worker ≡ j.worker
  pub start : t.start ≡ j.start
  pub entries : t.entries ≡ j.entries ++ added

-- a run from journal `j` to `t` adds a limited number of entries, and a limited number of stale ones
pub record Runs (count : ℕ) (j t : Journal) : Type 0 where
  pub added : List Entry
  pub adds : Extends j t added
  pub few : length added ≤ 3 * count + 1
  pub late : stales added ≤ count

-- The answers that were there stay, and behind them stands one for each job that was handed back since, which fits the
-- job, at the cost of its hand-back.
pub record HandsBack {J A : Type 0} (fits : ℕ → A → Type 0) (price : A → ℕ) (p q : PassView J A) : Type 0 where
  pub more : List (ℕ × A)
  pub answers : q.answers ≡ p.answers ++ more
  pub fit : AllFit fits more
  pub each : handed q.journal.entries ≡ handed p.journal.entries ++ priced price more

-- the worker is free, and its last reply was that none is left
pub record IsDone (t : Journal) : Type 0 where
  pub free : state_of t.entries ≡ Free
  pub last : (before : List Entry) × (x : Step) × (t.entries ≡ before ++ entry x NoneLeft ∷ [])
  pub told : saw_none t.entries ≡ true
