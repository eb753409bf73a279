-- What a command line comes to: a request, or one of the faults.
use Rattle.std.specs.Prelude.{◌≡◌, ◌≢◌, ◌⊎◌, ◌<◌, ◌≤◌, ◌+◌, ◌*◌, ◌%◌, is_some, ℕ, List, [], Some, length}
use Rattle.clap.specs.Kinds.{IsAmong, Kinds}
use Rattle.clap.specs.Words.{Text, fault_of}
use Rattle.clap.specs.declared.error.kind.ErrorKind.{ErrorKind}
use Rattle.clap.specs.declared.error.kind.ErrorKind.TheVariants.{DisplayHelp, DisplayVersion}
use Rattle.iloc_meaning.specs.Memory.{WORDS}
use Rattle.iloc_args.specs.Asked.{Asked, asked}
use Rattle.iloc_args.specs.Command.{farm_app}
use Rattle.iloc_args.specs.Priority.{IsNoPriority}
use Rattle.iloc_args.specs.declared.fault.Exclusion.{Exclusion}
use Rattle.iloc_args.specs.Exclusions.{first_excluded}
use Rattle.iloc_args.specs.declared.fault.LineFault.{LineFault}
use Rattle.iloc_args.specs.declared.fault.LineFault.TheVariants.{Help, Refused, BadStart, TooManyWords, NoSuchPriority, Excluded, NoMemory}

-- what the parser finds wrong with the words: the kinds of the first step that fails, and none
-- where it takes them
unfoldable pub faults_in : List Text → Kinds
faults_in words = fault_of farm_app words

-- the parser takes the words, and they ask for this
pub record Asks (words : List Text) (a : Asked) : Type 0 where
  pub taken : faults_in words ≡ []
  pub asked : asked words ≡ Some a

-- the start is this one, and no multiple of 4
pub record StartsAmiss (at : ℕ) (a : Asked) : Type 0 where
  pub start : a.at ≡ at
  pub amiss : a.at % 4 ≢ 0

-- the start is a multiple of 4, and the words reach beyond the memory
pub record Overflows (a : Asked) : Type 0 where
  pub aligned : a.at % 4 ≡ 0
  pub beyond : 4 * WORDS < a.at + 4 * length a.words

-- the words fit into the memory, and the priority is none
pub record RanksByNone (a : Asked) : Type 0 where
  pub aligned : a.at % 4 ≡ 0
  pub fits : a.at + 4 * length a.words ≤ 4 * WORDS
  pub none : IsNoPriority a.priority

-- the words fit into the memory, the priority is one, and `exclusion` names the first options that exclude each other
pub record AsksForBoth (exclusion : Exclusion) (a : Asked) : Type 0 where
  pub aligned : a.at % 4 ≡ 0
  pub fits : a.at + 4 * length a.words ≤ 4 * WORDS
  pub known : IsNoPriority a.priority → ⊥
  pub first : first_excluded a.task a.flags a.priority_given (is_some a.priorities_file) (is_some a.task_file) ≡ Some exclusion

-- an error of this kind is a text that was asked for
abbrev pub IsAskedFor : ErrorKind → Type 0
IsAskedFor kind = (kind ≡ DisplayHelp) ⊎ (kind ≡ DisplayVersion)

-- the words bring this fault about; memory may be wanting at any words
abbrev pub IsDue : List Text → LineFault → Type 0
IsDue words (Help text) = (kind : ErrorKind) × IsAmong kind (faults_in words) × IsAskedFor kind
IsDue words (Refused text) =
    (kind : ErrorKind) × IsAmong kind (faults_in words) × (IsAskedFor kind → ⊥)
IsDue words (BadStart at) = (a : Asked) × Asks words a × StartsAmiss at a
IsDue words TooManyWords = (a : Asked) × Asks words a × Overflows a
IsDue words NoSuchPriority = (a : Asked) × Asks words a × RanksByNone a
IsDue words (Excluded exclusion) = (a : Asked) × Asks words a × AsksForBoth exclusion a
IsDue words NoMemory = Unit {0}
