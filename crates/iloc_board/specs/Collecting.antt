-- What is found when a board is closed, and what a refusal of `collect` tells.
use Rattle.std.specs.Prelude.{◌≡◌, ◌≢◌, ℕ, ◌<◌, true, false, ◌==◌, cond, List, [], ◌∷◌, length, map, slice_get, slice_index, Some}
use Rattle.std.specs.List.{All, Contains, list_any}
use Rattle.iloc_board.specs.declared.step.Step.{Step}
use Rattle.iloc_board.specs.declared.step.Reply.TheVariants.{NotNow}
use Rattle.iloc_board.specs.declared.step.Entry.{Entry}
use Rattle.iloc_board.specs.declared.step.Journal.{Journal}
use Rattle.iloc_board.specs.Core.{opening, is_holding, worker_of, played}
use Rattle.iloc_board.specs.Sequential.{Legal, opened}
use Rattle.iloc_board.specs.History.{history, IsExact}
use Rattle.iloc_board.specs.Journal.{entries_of, state_of, saw_none}
use Rattle.iloc_board.specs.Play.{TakesEachOnce}
use Rattle.iloc_board.specs.declared.collect.CollectFault.{CollectFault}
use Rattle.iloc_board.specs.declared.collect.CollectFault.TheVariants.{Missing, NoMemory}

-- each step is by a worker that was made
abbrev pub AllMade : ℕ → List Step → Type 0
AllMade made [] = Unit {0}
AllMade made (x ∷ xs) = (worker_of x < made) × AllMade made xs

-- no step was forbidden
abbrev pub AllAnswered : List Entry → Type 0
AllAnswered [] = Unit {0}
AllAnswered (e ∷ es) = (e.reply ≢ NotNow) × AllAnswered es

-- no number stands twice
abbrev pub NoneTwice : List ℕ → Type 0
NoneTwice [] = Unit {0}
NoneTwice (x ∷ xs) = (list_any (λ y. x == y) xs ≡ false) × NoneTwice xs

-- the workers of `journals`
abbrev pub workers_of : List Journal → List ℕ
workers_of journals = map (λ j. j.worker) journals

-- One list of steps, by workers that were made, none forbidden, of which each gathered journal is all that its worker
-- did, and no worker's was gathered twice; each take in it is of the job looked at, and no job is taken twice.
pub record IsOneList (count made : ℕ) (gathered : List Journal) (steps : List Step) : Type 0 where
  pub below : AllMade made steps
  pub answered : AllAnswered (played count (opening count) steps)
  pub journals : All (λ j. entries_of j.worker (played count (opening count) steps) ≡ j.entries) gathered
  pub apart : NoneTwice (workers_of gathered)
  pub exact : IsExact count (opening count) steps
  pub once : TakesEachOnce count steps

-- what is known to have come back for a job: the answer, where its pass was gathered, and else its cost alone
pub data HandedBack (A : Type 0) : Type 0 where
  answer : A → HandedBack A
  only_cost : ℕ → HandedBack A

module _ {A : Type 0} where
  abbrev pub handed_back_in : List (ℕ × A) → ℕ → ℕ → HandedBack A
  handed_back_in [] k cost = only_cost cost
  handed_back_in (x ∷ xs) k cost = cond (k == x.0) (answer x.1) (handed_back_in xs k cost)

  abbrev pub FitsHandedBack : (ℕ → A → Type 0) → ℕ → HandedBack A → Type 0
  FitsHandedBack fits k (answer a) = fits k a
  FitsHandedBack fits k (only_cost cost) = Unit {0}

  -- the list of steps is a legal history, with the answers that were gathered
  abbrev pub IsLegalWith : (ℕ → A → Type 0) → List (ℕ × A) → ℕ → List Step → Type 0
  IsLegalWith fits answers count steps =
      Legal (FitsHandedBack fits) (opened count) (history (handed_back_in answers) count (opening count) steps)

  -- the jobs of the answers `xs`
  abbrev pub jobs_of : List (ℕ × A) → List ℕ
  jobs_of xs = map (λ x. x.0) xs

  -- each job has the answer that came back for it, which fits it, and that answer's cost
  pub record AreTheAnswers (count : ℕ) (fits : ℕ → A → Type 0) (price : A → ℕ)
      (handed : List (ℕ × A)) (answers : List A) (costs : List ℕ) : Type 0 where
    pub long : length answers ≡ count
    pub priced : length costs ≡ count
    pub each : (i : ℕ) (a : A) → slice_get answers i ≡ Some a
        → Contains handed (i, a) × fits i a × (slice_index costs i ≡ price a)

  -- the lowest job that has no answer
  abbrev pub IsFirstMissing : ℕ → List (ℕ × A) → ℕ → Type 0
  IsFirstMissing count handed i = (i < count) × ((a : A) → ¬ Contains handed (i, a))
      × ((j : ℕ) → j < i → (a : A) × Contains handed (j, a))

-- all passes that were made were gathered, none of them holds a job, and one was told that none is left
pub record IsWhole (made : ℕ) (gathered : List Journal) : Type 0 where
  pub all : (w : ℕ) → w < made → Contains (workers_of gathered) w
  pub idle : All (λ j. is_holding (state_of j.entries) ≡ false) gathered
  pub told : list_any (λ j. saw_none j.entries) gathered ≡ true

module _ {A : Type 0} where
  -- a missing job is the lowest that has no answer
  abbrev pub MissingOf : ℕ → List (ℕ × A) → CollectFault → Type 0
  MissingOf count handed (Missing i) = IsFirstMissing count handed i
  MissingOf count handed NoMemory = Unit {0}

-- only memory was refused
abbrev pub IsNoMemory : CollectFault → Type 0
IsNoMemory (Missing i) = ⊥
IsNoMemory NoMemory = Unit {0}
