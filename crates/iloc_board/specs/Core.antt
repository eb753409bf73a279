-- The core of a board: the number of the next job, a cost for each job, and a state for each worker.
use Rattle.std.specs.Prelude.{ℕ, suc, ◌<◌, Bool, true, false, cond, ◌==◌, nat_lt, List, [], ◌∷◌, replicate, slice_set}
use Rattle.iloc_board.specs.declared.step.Step.{Step}
use Rattle.iloc_board.specs.declared.step.Step.TheVariants.{Look, Try, Hand}
use Rattle.iloc_board.specs.declared.step.Reply.{Reply}
use Rattle.iloc_board.specs.declared.step.Reply.TheVariants.{Block, NoneLeft, Took, Stale, Handed, NotNow}
use Rattle.iloc_board.specs.declared.step.Entry.{Entry}
use Rattle.iloc_board.specs.declared.board.state.State.{State}
use Rattle.iloc_board.specs.declared.board.state.State.TheVariants.{Free, Looked, Holding}

-- next counts up through the jobs; a job that was not handed back costs 0; workers are all numbers
pub record Core : Type 0 where
  pub next : ℕ
  pub costs : List ℕ
  pub state : ℕ → State

-- the job that the state names, if any, is one of the board's
abbrev pub IsWithin : ℕ → State → Type 0
IsWithin count Free = Unit {0}
IsWithin count (Looked k) = k < count
IsWithin count (Holding k) = k < count

abbrev pub is_holding : State → Bool
is_holding Free = false
is_holding (Looked k) = false
is_holding (Holding k) = true

-- before any step
abbrev pub opening : ℕ → Core
opening count = record { next = 0; costs = replicate count 0; state = λ w. Free }

-- who makes the step
abbrev pub worker_of : Step → ℕ
worker_of (Look w) = w
worker_of (Try w) = w
worker_of (Hand w cost) = w

-- what a look finds
abbrev pub look_finds : ℕ → ℕ → Reply
look_finds count next = cond (nat_lt next count) (Block next) NoneLeft

-- what a try finds where another worker was faster
abbrev pub missed : ℕ → ℕ → Reply
missed count next = cond (nat_lt next count) (Stale next) NoneLeft

-- a look is forbidden while the worker holds a job
abbrev pub look_reply : ℕ → ℕ → State → Reply
look_reply count next Free = look_finds count next
look_reply count next (Looked k) = look_finds count next
look_reply count next (Holding k) = NotNow

-- a try is for a worker that has looked at a job, and wins where that job is still the next
abbrev pub try_reply : ℕ → ℕ → State → Reply
try_reply count next Free = NotNow
try_reply count next (Looked k) = cond (next == k) (Took k) (missed count next)
try_reply count next (Holding k) = NotNow

-- only a worker that holds a job hands one back
abbrev pub hand_reply : State → Reply
hand_reply Free = NotNow
hand_reply (Looked k) = NotNow
hand_reply (Holding k) = Handed

-- the reply to a step, from the number of jobs, the next job and the worker's state
abbrev pub reply_at : ℕ → ℕ → State → Step → Reply
reply_at count next s (Look w) = look_reply count next s
reply_at count next s (Try w) = try_reply count next s
reply_at count next s (Hand w cost) = hand_reply s

abbrev pub reply_to : ℕ → Core → Step → Reply
reply_to count c x = reply_at count c.next (c.state (worker_of x)) x

-- a worker's state follows from the reply alone
abbrev pub state_after : State → Reply → State
state_after s (Block k) = Looked k
state_after s NoneLeft = Free
state_after s (Took k) = Holding k
state_after s (Stale k) = Looked k
state_after s Handed = Free
state_after s NotNow = s

-- only a take moves the next job on
abbrev pub next_after : ℕ → Reply → ℕ
next_after next (Block k) = next
next_after next NoneLeft = next
next_after next (Took k) = suc k
next_after next (Stale k) = next
next_after next Handed = next
next_after next NotNow = next

-- the cost goes to the job that the worker holds
abbrev pub cost_at : List ℕ → State → ℕ → List ℕ
cost_at costs Free cost = costs
cost_at costs (Looked k) cost = costs
cost_at costs (Holding k) cost = slice_set costs k cost

abbrev pub costs_at : List ℕ → State → Step → List ℕ
costs_at costs s (Look w) = costs
costs_at costs s (Try w) = costs
costs_at costs s (Hand w cost) = cost_at costs s cost

-- the core after a step
abbrev pub after : ℕ → Core → Step → Core
after count c x = record {
  next = next_after c.next (reply_to count c x);
  costs = costs_at c.costs (c.state (worker_of x)) x;
  state = λ w. cond (w == worker_of x) (state_after (c.state w) (reply_to count c x)) (c.state w);
}

-- the core `c` after the steps of a list
abbrev pub ends : ℕ → Core → List Step → Core
ends count c [] = c
ends count c (x ∷ xs) = ends count (after count c x) xs

abbrev pub entry : Step → Reply → Entry
entry x r = record { step = x; reply = r }

-- each step with its reply
abbrev pub played : ℕ → Core → List Step → List Entry
played count c [] = []
played count c (x ∷ xs) = entry x (reply_to count c x) ∷ played count (after count c x) xs
