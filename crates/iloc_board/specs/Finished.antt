-- What the workers of a board did whose jobs are all done.
use Rattle.std.specs.Prelude.{◌≡◌, ℕ, List, [], ◌∷◌, map}
use Rattle.std.specs.List.{range_with_len}
use Rattle.iloc_board.specs.declared.step.Step.{Step}
use Rattle.iloc_board.specs.declared.step.Journal.{Journal}
use Rattle.iloc_board.specs.Core.{opening}
use Rattle.iloc_board.specs.Sequential.{Call, SequentialBoard, opened, board_after}
use Rattle.iloc_board.specs.History.{history}
use Rattle.iloc_board.specs.Journal.{all_handed}
use Rattle.iloc_board.specs.Play.{final, taken_jobs}
use Rattle.iloc_board.specs.Collecting.{AreTheAnswers, IsLegalWith, IsOneList, IsWhole, NoneTwice, HandedBack, jobs_of, handed_back_in}

-- the successful takes and hand-backs of `steps`, and the replies that no job is left, as calls at a board of one
-- thread, with the answers `handed`
abbrev pub calls : {A : Type 0} → ℕ → List (ℕ × A) → List Step → List (Call (HandedBack A))
calls count handed steps = history (handed_back_in handed) count (opening count) steps

-- each answer of the list fits the job beside it
abbrev pub AllFit : {A : Type 0} → (ℕ → A → Type 0) → List (ℕ × A) → Type 0
AllFit fits [] = Unit {0}
AllFit fits (x ∷ xs) = fits x.0 x.1 × AllFit fits xs

-- each answer's job with the answer's cost
abbrev pub priced : {A : Type 0} → (A → ℕ) → List (ℕ × A) → List (ℕ × ℕ)
priced price xs = map (λ x. (x.0, price x.1)) xs

-- `answers` fit, and are one for each hand-back of `handed`, at its cost
pub record AreFitting {A : Type 0} (fits : ℕ → A → Type 0) (price : A → ℕ)
    (answers : List (ℕ × A)) (handed : List (ℕ × ℕ)) : Type 0 where
  pub fit : AllFit fits answers
  pub each : priced price answers ≡ handed

-- nothing waits and nothing is out
pub record IsOver {A : Type 0} (b : SequentialBoard A) : Type 0 where
  pub waiting : b.waiting ≡ []
  pub out : b.out ≡ []

-- What contracts see of a receipt: how many passes the root made, the journals of the passes that it gathered, and the
-- answers that were handed back, in the order of the jobs.
pub record ReceiptView (A : Type 0) : Type 0 where
  pub made : ℕ
  pub gathered : List Journal
  pub answers : List A

-- The workers that a root made did all jobs. Each of their journals was gathered, and with them the answers, each behind its job.
pub record IsFinished {A : Type 0} (count : ℕ) (fits : ℕ → A → Type 0) (price : A → ℕ) (receipt : ReceiptView A)
    (handed : List (ℕ × A)) : Type 0 where
  -- There is one list of looks, tries and hand-backs, all by the workers of `receipt`; each worker's journal is its own
  -- part.
  pub steps : List Step
  pub one_list : IsOneList count receipt.made receipt.gathered steps
  pub every_worker : IsWhole receipt.made receipt.gathered
  -- One answer was handed back for each hand-back in the journals: it fits its job, and that is its cost.
  pub filed : AreFitting fits price handed (all_handed receipt.gathered)
  -- With the answers `handed` it is a legal history of a board of one thread, from all jobs waiting to none waiting and
  -- none out.
  pub legal : IsLegalWith fits handed count steps
  pub over : IsOver (board_after (opened count) (calls count handed steps))
  -- No job is taken twice or handed back twice.
  pub taken_once : taken_jobs count steps ≡ range_with_len 0 count
  pub handed_once : NoneTwice (jobs_of handed)
  -- For each job the receipt has exactly one answer, the one that was handed back for it, at the cost that the board has for it.
  pub last_costs : (final count steps).costs ≡ map price receipt.answers
  pub in_order : AreTheAnswers count fits price handed receipt.answers (map price receipt.answers)

-- so it is with some order of handing back: the journals tell jobs and costs, and the receipt tells each job's answer
abbrev pub IsDoneBy : {A : Type 0} → ℕ → (ℕ → A → Type 0) → (A → ℕ) → ReceiptView A → Type 0
IsDoneBy {A} count fits price receipt = (handed : List (ℕ × A)) × IsFinished count fits price receipt handed

-- What contracts see of a board that was closed when all was done: its jobs, and the receipt for what was done.
pub record DoneView (J A : Type 0) : Type 0 where
  pub jobs : J
  pub receipt : ReceiptView A
