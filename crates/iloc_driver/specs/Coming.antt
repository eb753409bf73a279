-- What a command comes to.
use Rattle.std.specs.Prelude.{ℕ, List, Option, Result, MatchResult}
use Rattle.iloc_args.specs.declared.request.Request.{Request}
use Rattle.iloc_driver.specs.Run.Apart.{Held}
use Rattle.iloc_driver.specs.Run.Causes.{IsCaused, causes_of}
use Rattle.iloc_driver.specs.Command.{Command, Input}
use Rattle.iloc_driver.specs.Run.{ListsBy, input_of}
use Rattle.iloc_driver.specs.Work.{HasReceipt, ReceiptOf}
use Rattle.iloc_driver.specs.declared.commands.Listed.{Listed}
use Rattle.iloc_driver.specs.declared.fault.RunFault.{RunFault}

-- its listing of what was read, with the receipt for that, or a fault that has its cause
abbrev pub ComesTo : {R : Type 0} → (command : Command) → (ReceiptOf command.listers → R → Type 0) → Held → Request
    → Option (List ℕ) → Option (List ℕ) → Result (Listed × Option R) RunFault → Type 0
ComesTo {R} command is held request old new result =
    let input : Input = input_of command request.task_file in
    MatchResult result
    (λ (r : Listed × Option R). ListsBy command input request.task_file held request old new r.0.finding r.0.text
    × HasReceipt command is held request old new r.0.text r.1)
    (IsCaused (causes_of command input request.task_file held request old new))
