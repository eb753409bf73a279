-- The history of core steps: what they are at the board of one thread.
use Rattle.std.specs.Prelude.{◌≡◌, ℕ, ◌-◌, Bool, false, ◌==◌, List, [], ◌∷◌, ◌++◌, map}
use Rattle.std.specs.List.{range_with_len, filter, flat_map}
use Rattle.iloc_board.specs.declared.step.Step.{Step}
use Rattle.iloc_board.specs.declared.step.Step.TheVariants.{Hand}
use Rattle.iloc_board.specs.declared.step.Reply.{Reply}
use Rattle.iloc_board.specs.declared.step.Reply.TheVariants.{Block, NoneLeft, Took, Stale, Handed, NotNow}
use Rattle.iloc_board.specs.declared.step.Entry.{Entry}
use Rattle.iloc_board.specs.declared.board.state.State.{State}
use Rattle.iloc_board.specs.declared.board.state.State.TheVariants.{Free, Looked, Holding}
use Rattle.iloc_board.specs.Core.{Core, after, reply_to, worker_of}
use Rattle.iloc_board.specs.Sequential as sequential
use Rattle.iloc_board.specs.Sequential.{Call, SequentialBoard}

-- the job that a worker in this state hands back by this step, with its cost
abbrev pub handed_by : State → Step → List (ℕ × ℕ)
handed_by (Holding k) (Hand w cost) = (k, cost) ∷ []
handed_by s x = []

-- the same, where the step was accepted
abbrev pub accepted : State → Step → Reply → List (ℕ × ℕ)
accepted s x Handed = handed_by s x
accepted s x r = []

-- the accepted hand-backs in order, each the job with its cost
abbrev pub hand_backs : ℕ → Core → List Step → List (ℕ × ℕ)
hand_backs count c [] = []
hand_backs count c (x ∷ xs) =
    accepted (c.state (worker_of x)) x (reply_to count c x) ++ hand_backs count (after count c x) xs

abbrev pub taken_by : ℕ → Reply → List (ℕ × ℕ)
taken_by w (Took k) = (w, k) ∷ []
taken_by w r = []

-- the takes in order, each the worker with the job
abbrev pub takes : List Entry → List (ℕ × ℕ)
takes es = flat_map (λ e. taken_by (worker_of e.step) e.reply) es

abbrev pub holds_job : State → ℕ → Bool
holds_job Free k = false
holds_job (Looked j) k = false
holds_job (Holding j) k = j == k

-- the worker holds the job
abbrev pub is_held : Core → ℕ × ℕ → Bool
is_held c p = holds_job (c.state p.0) p.1

abbrev pub IsExactReply : ℕ → Core → ℕ → Reply → Type 0
IsExactReply count c w (Took k) = (c.state w ≡ Looked k) × (c.next ≡ k)
IsExactReply count c w NoneLeft = c.next ≡ count
IsExactReply count c w r = Unit {0}

-- A worker takes only the job that it looked at and that is the next, and is told that none is left only where the
-- next is past the last.
abbrev pub IsExact : ℕ → Core → List Step → Type 0
IsExact count c [] = Unit {0}
IsExact count c (x ∷ xs) = IsExactReply count c (worker_of x) (reply_to count c x) × IsExact count (after count c x) xs

-- `said k cost` is the answer that was handed back for the job k at this cost
module _ {A : Type 0} (said : ℕ → ℕ → A) where
  abbrev pub given : ℕ × ℕ → ℕ × A
  given p = (p.0, said p.0 p.1)

  -- the calls that a step makes: one for each take, accepted hand-back and `NoneLeft`
  abbrev pub calls_of : State → Step → Reply → List (Call A)
  calls_of s x (Block k) = []
  calls_of s x NoneLeft = sequential.NoneLeft (worker_of x) ∷ []
  calls_of s x (Took k) = sequential.Took (worker_of x) k ∷ []
  calls_of s x (Stale k) = []
  calls_of s x Handed = map (λ p. sequential.Gave (worker_of x) p.0 (said p.0 p.1)) (handed_by s x)
  calls_of s x NotNow = []

  abbrev pub history : ℕ → Core → List Step → List (Call A)
  history count c [] = []
  history count c (x ∷ xs) = calls_of (c.state (worker_of x)) x (reply_to count c x) ++ history count (after count c x) xs

-- The board `b` of one thread is where the core `c` is: the jobs from `next` on wait; the ones that are `taken` and
-- still held are out, in the order of the takes; and `answers` are done.
pub record StandsAt {A : Type 0} (count : ℕ) (c : Core)
    (taken : List (ℕ × ℕ)) (answers : List (ℕ × A)) (b : SequentialBoard A) : Type 0 where
  pub waiting : b.waiting ≡ range_with_len c.next (count - c.next)
  pub out : b.out ≡ filter (is_held c) taken
  pub done : b.done ≡ answers
