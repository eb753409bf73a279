-- What the program does with its words, its input and its two writers.
use Rattle.std.specs.Prelude.{◌≡◌, ◌≢◌, ◌⊎◌, ℕ, List, ◌++◌, Option, Result, Ok, Err, MatchResult, codes}
use Rattle.std.specs.Io.KnownBytes.{Appends, Keeps}
use Rattle.std.specs.IoError.{error_kind}
use Rattle.std.specs.String.{string_bytes}
use Rattle.std.specs.declared.alloc.Global.{Global}
use Rattle.std.specs.declared.io.Error.{Error}
use Rattle.std.specs.declared.io.ErrorKind.TheVariants.{OutOfMemory}
use Rattle.std.specs.declared.string.String.{String}
use Rattle.iloc_args.specs.Asked.{asked_in}
use Rattle.iloc_args.specs.Due.{IsDue}
use Rattle.iloc_args.specs.Fault.{line_text, status_of as line_status_of}
use Rattle.iloc_args.specs.declared.fault.LineFault.{LineFault}
use Rattle.iloc_args.specs.declared.fault.LineFault.TheVariants.{Help, Refused, BadStart, TooManyWords, NoSuchPriority, Excluded, NoMemory}
use Rattle.iloc_args.specs.declared.request.Request.{Request}
use Rattle.iloc_args.specs.declared.request.Task.{Task}
use Rattle.iloc_driver.specs.Command.{Command}
use Rattle.iloc_driver.specs.Run.Apart.{Held}
use Rattle.iloc_listing.specs.Device.{WritesFront}
use Rattle.iloc_driver.specs.Fault.{run_status_of, run_text, status_of_finding}
use Rattle.iloc_driver.specs.Run.{EndsRun, ListsFrom}
use Rattle.iloc_driver.specs.Words.{Args, AskFor, words_after}
use Rattle.iloc_listing.specs.declared.writing.WriteFailed.{WriteFailed}
use Rattle.iloc_driver.specs.declared.program.Fault.{Fault}
use Rattle.iloc_driver.specs.declared.program.Fault.TheVariants.{Line, Run}
use Rattle.iloc_driver.specs.declared.fault.RunFault.{RunFault}
use Rattle.iloc_driver.specs.declared.fault.RunFault.TheVariants.{WriteFailed as write_failed}
use Rattle.iloc_driver.specs.declared.program.Ending.{Ending}
use Rattle.iloc_driver.specs.declared.commands.Finding.{Finding}
use Rattle.iloc_driver.specs.declared.commands.Finding.TheVariants.{Passed}

-- ---- the words

-- what is said of words that are no text
abbrev pub no_text : List ℕ
no_text = codes "error: invalid UTF-8 was detected in one or more arguments\n"

-- the fault where the environment gives no words: one is no text, or memory was wanting
abbrev pub IsWordless : Error → LineFault → Type 0
IsWordless error (Help text) = ⊥
IsWordless error (Refused text) = (error_kind error ≢ OutOfMemory) × (string_bytes text ≡ no_text)
IsWordless error (BadStart at) = ⊥
IsWordless error TooManyWords = ⊥
IsWordless error NoSuchPriority = ⊥
IsWordless error (Excluded exclusion) = ⊥
IsWordless error NoMemory = Unit {0}

-- the words make no request, by this fault, where help counts as one
abbrev pub MakeNone : Result Args Error → LineFault → Type 0
MakeNone (Ok args) fault = IsDue (words_after args) fault
MakeNone (Err error) fault = IsWordless error fault

-- help is no fault that stops the program
abbrev pub IsNoHelp : LineFault → Type 0
IsNoHelp (Help text) = ⊥
IsNoHelp _ = Unit {0}

-- ---- what becomes of the input and of the two writers, by what is known of them before and after, and of named texts

module _ (command_of : Task → Command) (held : Held) (words : Result Args Error) (read_old read_new : Option (List ℕ)) where
  -- the words ask for help, which is this text, and nothing is read
  pub record IsHelp (text : List ℕ) : Type 0 where
    pub help : String Global
    pub asked : MakeNone words (Help help)
    pub whole : text ≡ string_bytes help
    pub unread : Keeps read_old read_new

  -- the words make a request, which lists this text of the input, with this finding
  pub record IsListed (finding : Finding) (text : List ℕ) : Type 0 where
    pub request : Request
    pub asked : AskFor words (asked_in request)
    pub listed : ListsFrom command_of held request read_old read_new finding text

  -- the text is the one that the words ask for, with this finding; help judges nothing
  abbrev pub IsAskedFor : Finding → List ℕ → Type 0
  IsAskedFor finding text = (IsHelp text × (finding ≡ Passed)) ⊎ IsListed finding text

  module _ (written_old written_new : Option (List ℕ)) where
    -- the text that the words ask for is written, with this finding
    pub record IsWritten (finding : Finding) : Type 0 where
      pub text : List ℕ
      pub asked : IsAskedFor finding text
      pub written : Appends written_old written_new text

    -- a front of the text that the words ask for is written
    pub record IsCut : Type 0 where
      pub finding : Finding
      pub text : List ℕ
      pub asked : IsAskedFor finding text
      pub written : WritesFront written_old written_new text

    -- the words make no request, and nothing is read or written
    pub record IsRefused (fault : LineFault) : Type 0 where
      pub due : MakeNone words fault
      pub no_help : IsNoHelp fault
      pub unread : Keeps read_old read_new
      pub unwritten : Keeps written_old written_new

    -- the words make a request, and its run ends with this fault
    pub record IsEnded (fault : RunFault) : Type 0 where
      pub request : Request
      pub asked : AskFor words (asked_in request)
      pub ended : EndsRun command_of held request read_old read_new written_old written_new fault

    -- this fault stops the program
    abbrev pub IsStopped : Fault → Type 0
    IsStopped (Line fault) = IsRefused fault
    IsStopped (Run write_failed) = IsCut
    IsStopped (Run fault) = IsEnded fault

-- the text on a line that begins with the program's name
abbrev pub named_line : List ℕ → List ℕ
named_line text = codes "ilocfarm: " ++ (text ++ codes "\n")

-- what is said where the words make no request: a refusal of the parser is in its own words
abbrev pub words_line : LineFault → List ℕ
words_line (Refused text) = string_bytes text
words_line fault = named_line (line_text fault)

-- what is said of a fault
abbrev pub fault_line : Fault → List ℕ
fault_line (Line fault) = words_line fault
fault_line (Run fault) = named_line (run_text fault)

-- the exit status of a program that this fault stops
abbrev pub status_of : Fault → ℕ
status_of (Line fault) = line_status_of fault
status_of (Run fault) = run_status_of fault

-- the text is said whole, or a front of it
abbrev pub Says : {T : Type 0} → Option (List ℕ) → Option (List ℕ) → Result T WriteFailed → List ℕ → Type 0
Says old new told text = MatchResult told (λ _. Appends old new text) (λ _. WritesFront old new text)

module _ (command_of : Task → Command) (held : Held) (words : Result Args Error)
    (read_old read_new written_old written_new said_old said_new : Option (List ℕ)) where
  -- the program does what the words ask for: the status tells the finding, 0 or 5, and nothing is said
  pub record EndsWell (ending : Ending) : Type 0 where
    pub finding : Finding
    pub done : IsWritten command_of held words read_old read_new written_old written_new finding
    pub status : ending.status ≡ status_of_finding finding
    pub told : ending.told ≡ Ok tt
    pub unsaid : Keeps said_old said_new

  -- a fault stops the program: it ends with the fault's status and says what it was
  pub record EndsByFault (ending : Ending) : Type 0 where
    pub fault : Fault
    pub stopped : IsStopped command_of held words read_old read_new written_old written_new fault
    pub status : ending.status ≡ status_of fault
    pub said : Says said_old said_new ending.told (fault_line fault)

  -- how the program ends
  abbrev pub Ends : Ending → Type 0
  Ends ending = EndsWell ending ⊎ EndsByFault ending
