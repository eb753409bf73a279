-- A worker's part of the steps, and what it tells of the next job.
use Rattle.std.specs.Prelude.{ℕ, suc, max, Bool, true, false, cond, ◌==◌, ◌||◌, List, [], ◌∷◌, ◌++◌}
use Rattle.iloc_board.specs.declared.step.Step.{Step}
use Rattle.iloc_board.specs.declared.step.Reply.{Reply}
use Rattle.iloc_board.specs.declared.step.Reply.TheVariants.{Block, NoneLeft, Took, Stale, Handed, NotNow}
use Rattle.iloc_board.specs.declared.step.Entry.{Entry}
use Rattle.iloc_board.specs.declared.board.state.State.{State}
use Rattle.iloc_board.specs.declared.board.state.State.TheVariants.{Free}
use Rattle.iloc_board.specs.declared.step.Journal.{Journal}
use Rattle.iloc_board.specs.Core.{worker_of, state_after, entry}
use Rattle.iloc_board.specs.History.{accepted}

-- a journal, by a name that other crates can write
abbrev pub JournalView : Type 0
JournalView = Journal

abbrev pub journal_of : ℕ → ℕ → List Entry → Journal
journal_of worker start entries = record { worker = worker; start = start; entries = entries }

-- the entries of one worker
abbrev pub entries_of : ℕ → List Entry → List Entry
entries_of w [] = []
entries_of w (e ∷ es) = cond (w == worker_of e.step) (e ∷ entries_of w es) (entries_of w es)

-- a worker's state follows from its own entries
abbrev pub state_from : State → List Entry → State
state_from s [] = s
state_from s (e ∷ es) = state_from (state_after s e.reply) es

abbrev pub state_of : List Entry → State
state_of es = state_from Free es

-- the next job is at least this after the reply
abbrev pub shown : ℕ → Reply → ℕ
shown count (Block k) = k
shown count NoneLeft = count
shown count (Took k) = suc k
shown count (Stale k) = k
shown count Handed = 0
shown count NotNow = 0

-- the greatest of a start and of what the entries show
abbrev pub seen_from : ℕ → ℕ → List Entry → ℕ
seen_from count start [] = start
seen_from count start (e ∷ es) = seen_from count (max start (shown count e.reply)) es

-- the greatest that a journal shows of the next job
abbrev pub seen : ℕ → Journal → ℕ
seen count j = seen_from count j.start j.entries

-- the greatest number that the journals show
abbrev pub seen_in : ℕ → List Journal → ℕ
seen_in count [] = 0
seen_in count (j ∷ js) = max (seen count j) (seen_in count js)

abbrev pub is_none_left : Reply → Bool
is_none_left NoneLeft = true
is_none_left (Block k) = false
is_none_left (Took k) = false
is_none_left (Stale k) = false
is_none_left Handed = false
is_none_left NotNow = false

-- the worker was told that no job is left
abbrev pub saw_none : List Entry → Bool
saw_none [] = false
saw_none (e ∷ es) = is_none_left e.reply || saw_none es

-- the jobs handed back in the entries of a list, each with its cost
abbrev pub handed_from : State → List Entry → List (ℕ × ℕ)
handed_from s [] = []
handed_from s (e ∷ es) = accepted s e.step e.reply ++ handed_from (state_after s e.reply) es

abbrev pub handed : List Entry → List (ℕ × ℕ)
handed es = handed_from Free es

abbrev pub all_handed : List Journal → List (ℕ × ℕ)
all_handed [] = []
all_handed (j ∷ js) = handed j.entries ++ all_handed js

-- the journal with one entry more
abbrev pub noted : Journal → Step → Reply → Journal
noted j x r = journal_of j.worker j.start (j.entries ++ entry x r ∷ [])
