use Rattle.std.proofs.lemmas.Result.{IfOk-weaker}
use Rattle.iloc_row_commands.proofs.check.by_the_book.Goals as goal

pub returns-in_ok-refill-in-Address : goal.returns-in_ok-refill-in-Address
returns-in_ok-refill-in-Address c =
    IfOk-weaker c.lend_as.result _ _ (λ s is. (is _ _ _ c.in_ok-refill-in-Address.ensures.graph).greedy) c.lend_as.ensures
