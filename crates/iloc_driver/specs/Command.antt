-- What a command is: what it reads, what it lists of that, and whether workers share it.
use Rattle.std.specs.Prelude.{ℕ, ℤ, Bool, true, false, List, Option}
use Rattle.iloc_ops.specs.declared.file.Block.{Block}
use Rattle.iloc_meaning.specs.Memory.{words_from}
use Rattle.iloc_timed.specs.Schedule.{Table}
use Rattle.iloc_rows.specs.declared.proposal.Proposed.{Proposed}
use Rattle.iloc_listing.specs.Schedules.{IsTheGreedyUnder, ranks_under}
use Rattle.iloc_args.specs.Rule.{memory_rule}
use Rattle.iloc_args.specs.declared.request.Request.{Request}
use Rattle.iloc_driver.specs.Priorities.{Own}
use Rattle.iloc_driver.specs.declared.commands.Finding.{Finding}

-- the memory that a request has each block start with
abbrev pub initial_memory : Request → List ℤ
initial_memory request = words_from request.at request.words.items

-- `s` is the schedule of block `b` for `request`: by its rule of memory, greedy by the block's `own` priorities if it has some, else
-- as the request ranks
abbrev pub IsScheduleFor : Request → (own : Option (List ℕ)) → Block → Table → Type 0
IsScheduleFor request own b s =
    IsTheGreedyUnder (memory_rule request) (ranks_under (memory_rule request) request.priority request.latencies own)
    request.latencies b s

-- what is read: a file, blocks with rows for them, or a text of whatever kind
pub data Input : Type 0 where
  OfFile : Input
  OfRows : Input
  OfText : Input

abbrev pub is_of_rows : Input → Bool
is_of_rows OfRows = true
is_of_rows _ = false

-- Who lists the blocks of a file: one thread, or the workers, of whom each hands back for a block with its number, and its own
-- priorities if there are some, such an answer, with the cycles of the block's schedule in it. The listing is made of the blocks
-- and of all answers.
pub data Listers : Type 1 where
  Alone : Listers
  Shared : (A : Type 0) → (Request → Option (List ℕ) → ℕ → Block → A → Type 0) → (A → ℕ)
      → (Request → List Block → List A → List ℕ) → Listers

pub record Command : Type 1 where
  -- what it reads
  pub input : Input
  -- whether, where a request names a file, that file has the blocks and rows for them are read
  pub takes_task : Bool
  pub listers : Listers
  -- what it lists of a file's blocks, with their own priorities if there are some
  pub lists : Request → Own → List Block → List ℕ → Type 0
  -- what it says of what is proposed for blocks, and finds
  pub says : Request → List Block → List Proposed → Finding → List ℕ → Type 0
  -- what it reports of a text, and finds
  pub reports : List ℕ → Finding → List ℕ → Type 0

-- a command that lists files so, and does no more
abbrev pub of_files : (Request → Own → List Block → List ℕ → Type 0) → Command
of_files lists = record {
  input = OfFile;
  takes_task = false;
  listers = Alone;
  lists = lists;
  says = λ _ _ _ _ _. ⊥;
  reports = λ _ _ _. ⊥;
}

-- one that lists no file
abbrev pub of_no_file : Command
of_no_file = of_files (λ _ _ _ _. ⊥)

-- one whose blocks workers share, and that does no more
abbrev pub shared_by : {A : Type 0} → (Request → Option (List ℕ) → ℕ → Block → A → Type 0) → (A → ℕ)
    → (Request → List Block → List A → List ℕ) → (Request → Own → List Block → List ℕ → Type 0) → Command
shared_by {A} answers cycles_in made_of lists =
    record of_no_file { listers = Shared A answers cycles_in made_of; lists = lists }

-- one that says this of rows: for the input's blocks or, where a request names a file, for that file's
abbrev pub of_rows : (Request → List Block → List Proposed → Finding → List ℕ → Type 0) → Command
of_rows says = record of_no_file { input = OfRows; takes_task = true; says = says }

-- one that lists files as this one does, but where a request names a file says this of rows for that file's blocks
abbrev pub of_files_or_rows : Command → (Request → List Block → List Proposed → Finding → List ℕ → Type 0) → Command
of_files_or_rows files says = record files { takes_task = true; says = says }
