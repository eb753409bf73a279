-- What a command comes to.
use Rattle.iloc_farm.proofs.Common.{◌≡◌, ℕ, List, Option, Result, sym, subst, Request, Task, Held, command_of}
use Rattle.iloc_driver.specs.Coming.{ComesTo}
use Rattle.iloc_driver.specs.declared.commands.Listed.{Listed}
use Rattle.iloc_driver.specs.declared.fault.RunFault.{RunFault}
use Rattle.iloc_farm.specs.Commands.{IsReceiptFor}
use Rattle.iloc_farm.specs.declared.receipt.CommandReceipt.{CommandReceipt}

-- what the command of a task comes to is what a request for that task does
pub as_asked : (t : Task) (held : Held) (request : Request) (old new : Option (List ℕ))
    (result : Result (Listed × Option CommandReceipt) RunFault)
    → request.task ≡ t → ComesTo (command_of t) (IsReceiptFor t) held request old new result
    → ComesTo (command_of request.task) (IsReceiptFor request.task) held request old new result
as_asked t held request old new result is comes =
    subst (λ u. ComesTo (command_of u) (IsReceiptFor u) held request old new result) (sym is) comes
