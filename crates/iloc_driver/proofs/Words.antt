-- What the words ask for, by what is made of those behind the program's name.
use Rattle.iloc_driver.proofs.Common.{◌≡◌, ℕ, List, map, drop, IsErrAnd, IfOk, IfErr, Ok, Err, string_bytes, Option, Result, sym, ap, ◌∙◌, subst, inr, arith, Command, Args, AskFor, IsHelp, IsStopped, MakeNone, Held, Farm, Priorities, ReadFailed, Rows, Text}
use Rattle.std.proofs.KnownBytes.{Keeps-refl}
use Rattle.std.specs.Vec.Iter.{into_iter_items}
use Rattle.std.specs.declared.alloc.Global.{Global}
use Rattle.std.specs.declared.io.Error.{Error}
use Rattle.std.specs.declared.string.String.{String}
use Rattle.iloc_args.specs.Asked.{asked_in}
use Rattle.iloc_args.specs.Due.{Asks, IsDue}
use Rattle.iloc_args.specs.declared.fault.LineFault.{LineFault}
use Rattle.iloc_args.specs.declared.fault.LineFault.TheVariants.{Help}
use Rattle.iloc_args.specs.declared.request.Request.{Request}
use Rattle.iloc_args.specs.declared.request.Task.{Task}
use Rattle.iloc_driver.specs.Run.{EndsRun}
use Rattle.iloc_driver.specs.declared.fault.RunFault.{RunFault}
use Rattle.iloc_driver.specs.declared.fault.RunFault.TheVariants.{Task as of_task, WriteFailed}
use Rattle.iloc_driver.specs.declared.program.Fault.TheVariants.{Run}

-- what the words behind the name ask for is what the words do
pub made_some : (words : Result Args Error) (args : Args) (behind : List (String Global))
    (result : Result Request LineFault) → words ≡ Ok args
    → behind ≡ drop 1 (into_iter_items args)
    → IfOk result (λ request. Asks (map string_bytes behind) (asked_in request))
    → IfOk result (λ request. AskFor words (asked_in request))
made_some words args behind result given same asks = grind arith

-- a fault of the words behind the name is one of the words
pub made_none : (words : Result Args Error) (args : Args) (behind : List (String Global))
    (result : Result Request LineFault) → words ≡ Ok args
    → behind ≡ drop 1 (into_iter_items args) → IfErr result (IsDue (map string_bytes behind))
    → IfErr result (MakeNone words)
made_none words args behind result given same due = grind arith

-- a fault that ends the run stops the program
pub run_stopped : (command_of : Task → Command) (held : Held) (words : Result Args Error) (request : Request)
    (read_old read_new written_old written_new : Option (List ℕ)) (fault : RunFault) → AskFor words (asked_in request)
    → EndsRun command_of held request read_old read_new written_old written_new fault
    → IsStopped command_of held words read_old read_new written_old written_new (Run fault)
run_stopped command_of held words request read_old read_new written_old written_new ReadFailed asked ended =
    record { request = request; asked = asked; ended = ended }
run_stopped command_of held words request read_old read_new written_old written_new (Text fault) asked ended =
    record { request = request; asked = asked; ended = ended }
run_stopped command_of held words request read_old read_new written_old written_new (Rows fault) asked ended =
    record { request = request; asked = asked; ended = ended }
run_stopped command_of held words request read_old read_new written_old written_new (of_task fault) asked ended =
    record { request = request; asked = asked; ended = ended }
run_stopped command_of held words request read_old read_new written_old written_new (Priorities fault) asked ended =
    record { request = request; asked = asked; ended = ended }
run_stopped command_of held words request read_old read_new written_old written_new (Farm fault) asked ended =
    record { request = request; asked = asked; ended = ended }
run_stopped command_of held words request read_old read_new written_old written_new WriteFailed asked ended =
    record {
      finding = ended.0;
      text = ended.1;
      asked = inr (record { request = request; asked = asked; listed = ended.2 });
      written = ended.3;
    }

-- what holds of the error that is made holds of the error that is returned
pub made_err : {T E : Type 0} (result : Result T E) (made : E) (P : E → Type 0) → IsErrAnd result (λ e. e ≡ made)
    → P made → IfErr result P
made_err (Ok x) made P is p = tt
made_err (Err e) made P is p = subst P (sym is) p

-- the text that is written is that of the help
pub is_help : (command_of : Task → Command) (held : Held) (words : Result Args Error) (read : Option (List ℕ))
    (fault : LineFault) (help shown : String Global) (text : List ℕ) → MakeNone words fault
    → fault ≡ Help help → shown ≡ help → text ≡ string_bytes shown → IsHelp command_of held words read read text
is_help command_of held words read fault help shown text asked is same whole = record {
  help = help;
  asked = subst (MakeNone words) is asked;
  whole = whole ∙ ap string_bytes same;
  unread = Keeps-refl read;
}
