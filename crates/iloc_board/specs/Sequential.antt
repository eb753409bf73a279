-- The board of one thread, as a sequential specification: whole jobs move from waiting to out to done.
use Rattle.std.specs.Prelude.{◌≡◌, ℕ, Bool, true, false, not, ◌&&◌, ◌==◌, List, [], ◌∷◌, ◌++◌, drop}
use Rattle.std.specs.List.{range_with_len, filter, list_any}

-- a worker took a job, gave back the answer to a job, or saw that no job is left
pub data Call (A : Type 0) : Type 0 where
  Took : ℕ → ℕ → Call A
  Gave : ℕ → ℕ → A → Call A
  NoneLeft : ℕ → Call A

-- The jobs that wait; the jobs that are out, each with its worker before it; the jobs that are done, each with its
-- answer.
pub record SequentialBoard (A : Type 0) : Type 0 where
  pub waiting : List ℕ
  pub out : List (ℕ × ℕ)
  pub done : List (ℕ × A)

-- it is this worker with this job
abbrev pub is_pair : ℕ → ℕ → ℕ × ℕ → Bool
is_pair w i p = (w == p.0) && (i == p.1)

-- the job is out with the worker
abbrev pub is_out : ℕ → ℕ → List (ℕ × ℕ) → Bool
is_out w i out = list_any (is_pair w i) out

-- some job is out with the worker
abbrev pub has_out : ℕ → List (ℕ × ℕ) → Bool
has_out w out = list_any (λ p. w == p.0) out

-- all that is out but this job
abbrev pub without : ℕ → ℕ → List (ℕ × ℕ) → List (ℕ × ℕ)
without w i out = filter (λ p. not (is_pair w i p)) out

module _ {A : Type 0} where
  -- all jobs wait
  abbrev pub opened : ℕ → SequentialBoard A
  opened count = record { waiting = range_with_len 0 count; out = []; done = [] }

  -- the board after a call
  abbrev pub moved : SequentialBoard A → Call A → SequentialBoard A
  moved b (Took w i) = record { waiting = drop 1 b.waiting; out = b.out ++ (w, i) ∷ []; done = b.done }
  moved b (Gave w i a) = record { waiting = b.waiting; out = without w i b.out; done = b.done ++ (i, a) ∷ [] }
  moved b (NoneLeft w) = b

  -- the board `b` after the calls of a list
  abbrev pub board_after : SequentialBoard A → List (Call A) → SequentialBoard A
  board_after b [] = b
  board_after b (x ∷ xs) = board_after (moved b x) xs

  module _ (fits : ℕ → A → Type 0) where
    -- Only the first job that waits is taken, by a worker that has none out; an answer is given for a job that is out
    -- with the worker, and fits it; none is left where none waits.
    abbrev pub Allowed : SequentialBoard A → Call A → Type 0
    Allowed b (Took w i) = ((later : List ℕ) × (b.waiting ≡ i ∷ later)) × (has_out w b.out ≡ false)
    Allowed b (Gave w i a) = (is_out w i b.out ≡ true) × fits i a
    Allowed b (NoneLeft w) = b.waiting ≡ []

    -- each call is allowed where it stands
    abbrev pub Legal : SequentialBoard A → List (Call A) → Type 0
    Legal b [] = Unit {0}
    Legal b (x ∷ xs) = Allowed b x × Legal (moved b x) xs
