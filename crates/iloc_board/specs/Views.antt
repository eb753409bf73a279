-- What contracts see of a board, a pass and a root, and what the board's calls answer, as replies of the core.
use Rattle.std.specs.Prelude.{◌≡◌, ℕ, suc, Bool, true, false, List, [], ◌∷◌, ◌++◌, ◌<◌, ◌≤◌}
use Rattle.atomic_table.specs.Seated.{TableId}
use Rattle.iloc_board.specs.declared.step.Step.{Step}
use Rattle.iloc_board.specs.declared.step.Step.TheVariants.{Hand}
use Rattle.iloc_board.specs.declared.step.Reply.{Reply}
use Rattle.iloc_board.specs.declared.step.Reply.TheVariants.{Handed, Block, NoneLeft, Took, Stale}
use Rattle.iloc_board.specs.declared.board.state.State.{State}
use Rattle.iloc_board.specs.declared.board.state.State.TheVariants.{Free, Looked, Holding}
use Rattle.iloc_board.specs.declared.step.Journal.{Journal}
use Rattle.iloc_board.specs.Journal.{journal_of, state_of, noted, seen_in}
use Rattle.iloc_board.specs.declared.board.Seen.{Seen}
use Rattle.iloc_board.specs.declared.board.Seen.TheVariants as saw
use Rattle.iloc_board.specs.declared.board.Tried.{Tried}
use Rattle.iloc_board.specs.declared.board.Tried.TheVariants as got

-- a board is told from others by its `table`, and has its `jobs`
pub record BoardView (J : Type 0) : Type 0 where
  pub table : TableId
  pub jobs : J

-- a pass: its board, its part of the steps, and the answers that it handed back, each behind its job
pub record PassView (J A : Type 0) : Type 0 where
  pub board : BoardView J
  pub journal : Journal
  pub answers : List (ℕ × A)

-- A root: its board, how many passes there may be and how many were made, and the journals and answers of the passes
-- that it gathered.
pub record RootView (J A : Type 0) : Type 0 where
  pub board : BoardView J
  pub workers : ℕ
  pub made : ℕ
  pub gathered : List Journal
  pub answers : List (ℕ × A)

abbrev pub is_looking : State → Bool
is_looking Free = false
is_looking (Looked k) = true
is_looking (Holding k) = false

-- the job that a state names
abbrev pub job_of : State → ℕ
job_of Free = 0
job_of (Looked k) = k
job_of (Holding k) = k

module _ {J A : Type 0} where
  -- what a pass is about
  abbrev pub state : PassView J A → State
  state p = state_of p.journal.entries

  -- the pass after a step with its reply
  abbrev pub stepped : PassView J A → Step → Reply → PassView J A
  stepped p x r = record p { journal = noted p.journal x r }

  -- the pass after it handed back an answer to the job k
  abbrev pub with_answer : PassView J A → ℕ → A → ℕ → PassView J A
  with_answer p k a cost = record p {
    journal = noted p.journal (Hand p.journal.worker cost) Handed;
    answers = p.answers ++ (k, a) ∷ [];
  }

  -- the root after it made a pass
  abbrev pub with_pass : RootView J A → RootView J A
  with_pass r = record r { made = suc r.made }

  -- the pass that a root makes next: the greatest that the gathered journals show is its start
  abbrev pub new_pass : ℕ → RootView J A → PassView J A
  new_pass count r = record { board = r.board; journal = journal_of r.made (seen_in count r.gathered) []; answers = [] }

  -- the root after it gathered a pass
  abbrev pub with_gathered : RootView J A → PassView J A → RootView J A
  with_gathered r p = record r {
    gathered = r.gathered ++ p.journal ∷ [];
    answers = r.answers ++ p.answers;
  }

abbrev pub seen_reply : Seen → Reply
seen_reply (saw.Block k) = Block k
seen_reply saw.NoneLeft = NoneLeft

-- a job shown is one of the board's, and no less than all that was seen before
abbrev pub IsFreshSeen : ℕ → ℕ → Seen → Type 0
IsFreshSeen count before (saw.Block k) = (before ≤ k) × (k < count)
IsFreshSeen count before saw.NoneLeft = Unit {0}

abbrev pub tried_reply : Tried → Reply
tried_reply (got.Took k) = Took k
tried_reply (got.Stale k) = Stale k
tried_reply got.NoneLeft = NoneLeft

-- A job taken is the one looked at, and is just what was seen before; a later one is past the one looked at, and no
-- less than all that was seen before.
abbrev pub IsFreshTried : ℕ → ℕ → ℕ → Tried → Type 0
IsFreshTried count before looked (got.Took k) = (k ≡ before) × (k ≡ looked)
IsFreshTried count before looked (got.Stale k) = (before ≤ k) × (looked < k) × (k < count)
IsFreshTried count before looked got.NoneLeft = Unit {0}
