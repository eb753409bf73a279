-- The work of several workers, and the receipt for it.
use Rattle.std.specs.Prelude.{◌≡◌, ℕ, List, length, Option, None}
use Rattle.std.specs.Option.{IsSomeAnd}
use Rattle.std.specs.List.{All, range_with_len}
use Rattle.iloc_ops.specs.declared.file.Block.{Block}
use Rattle.iloc_board.specs.Collecting.{workers_of}
use Rattle.iloc_board.specs.Finished.{IsDoneBy, ReceiptView}
use Rattle.iloc_board.specs.Working.{IsDone}
use Rattle.iloc_args.specs.declared.request.Request.{Request}
use Rattle.iloc_driver.specs.Command.{Alone, Command, Input, Listers, OfFile, Shared}
use Rattle.iloc_driver.specs.Entries.{ListsRead, OfBlock}
use Rattle.iloc_driver.specs.Priorities.{AreIn, Own, own_of}
use Rattle.iloc_driver.specs.Run.{input_of}
use Rattle.iloc_driver.specs.Run.Apart.{Held}

-- `workers` workers did all jobs. `receipt` has one journal of each, in order, and each was told that no job is left.
-- By the journals, what they did is one legal history of a board of one thread, in which each job is taken once and
-- handed back once: the answers that the receipt keeps, in the order of the jobs.
pub record AreFarmed {A : Type 0} (count : ℕ) (fits : ℕ → A → Type 0) (price : A → ℕ) (workers : ℕ) (receipt : ReceiptView A)
    : Type 0 where
  pub made : receipt.made ≡ workers
  pub journals : workers_of receipt.gathered ≡ range_with_len 0 workers
  pub told : All IsDone receipt.gathered
  pub done : IsDoneBy count fits price receipt

-- what is listed of block k, by its own priorities if it has some
abbrev pub by_own : {A : Type 0} → (Option (List ℕ) → ℕ → Block → A → Type 0) → Own → ℕ → Block → A → Type 0
by_own lists own k b x = lists (own_of own k) k b x

-- The bytes that were read denote a file, and the text is the listing of its blocks. It is made of what workers handed
-- back for the very blocks of that file, at their cycles: of the answers that the receipt keeps.
pub record ListsFarmed {A : Type 0} (lists : Option (List ℕ) → ℕ → Block → A → Type 0) (cycles_in : A → ℕ)
    (made_of : List Block → List A → List ℕ) (is_listing : Own → List Block → List ℕ → Type 0)
    (are_own : List Block → Own → Type 0) (workers : ℕ) (old new : Option (List ℕ)) (text : List ℕ) (receipt : ReceiptView A)
    : Type 0 where
  pub read : ListsRead is_listing are_own old new text
  pub farmed : AreFarmed (length read.blocks) (OfBlock (by_own lists read.own) read.blocks) cycles_in workers receipt
  pub made : text ≡ made_of read.blocks receipt.answers

-- what a receipt for the work of `Listers` tells, where there is one
abbrev pub ReceiptOf : Listers → Type 0
ReceiptOf Alone = ⊥
ReceiptOf (Shared A answers cycles_in made_of) = ReceiptView A

-- Where workers share what is listed of a file, this is the receipt for what the request's workers listed of the file that was
-- read: of each block its entry, or the cycles of its schedule, or all that is compared. Else there is none. `is kept r` says that
-- the receipt `r` keeps this.
abbrev pub HasReceiptFrom : {R : Type 0} → (l : Listers) → Input → (ReceiptOf l → R → Type 0)
    → (Own → List Block → List ℕ → Type 0) → (List Block → Own → Type 0) → Request → Option (List ℕ) → Option (List ℕ)
    → List ℕ → Option R → Type 0
HasReceiptFrom {R} (Shared A answers cycles_in made_of) OfFile is is_listing are_own request old new text receipt =
    IsSomeAnd receipt (λ (r : R). (kept : ReceiptView A) × is kept r × ListsFarmed (answers request) cycles_in (made_of request)
    is_listing are_own request.workers old new text kept)
HasReceiptFrom listers input is is_listing are_own request old new text receipt = receipt ≡ None

-- so it is with what the command lists of what it reads for the request
abbrev pub HasReceipt : {R : Type 0} → (command : Command) → (ReceiptOf command.listers → R → Type 0) → Held → Request
    → Option (List ℕ) → Option (List ℕ) → List ℕ → Option R → Type 0
HasReceipt command is held request old new text receipt =
    HasReceiptFrom command.listers (input_of command request.task_file) is (command.lists request)
    (AreIn request.priorities_file held) request old new text receipt
