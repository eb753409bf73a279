-- What workers list of blocks.
use Rattle.iloc_driver.proofs.Common.{ℕ, List, length, Block, AreListed, OfBlock, AreFarmed}
use Rattle.iloc_board.specs.Finished.{ReceiptView}

-- what was handed back for each block is listed of it
pub are_listed : {A : Type 0} (lists : ℕ → Block → A → Type 0) (cycles_in : A → ℕ) (workers : ℕ) (blocks : List Block)
    (receipt : ReceiptView A)
    → AreFarmed (length blocks) (OfBlock lists blocks) cycles_in workers receipt → AreListed lists blocks receipt.answers
are_listed lists cycles_in workers blocks receipt farmed =
    let done = farmed.done.1.in_order in record { many = done.long; each = λ i x at. (done.each i x at).1 }
