-- The faults of the two halves: what the parser finds, and what it has taken and is out of range.
use Rattle.std.specs.Prelude.{◌≡◌, ◌≢◌}
use Rattle.clap.specs.declared.error.kind.ErrorKind.{ErrorKind}
use Rattle.clap.specs.declared.error.kind.ErrorKind.TheVariants.{OutOfMemory}
use Rattle.iloc_args.specs.Asked.{Asked}
use Rattle.iloc_args.specs.Due.{AsksForBoth, IsAskedFor, Overflows, RanksByNone, StartsAmiss}
use Rattle.iloc_args.specs.declared.fault.LineFault.{LineFault}
use Rattle.iloc_args.specs.declared.fault.LineFault.TheVariants.{Help, Refused, BadStart, TooManyWords, NoSuchPriority, Excluded, NoMemory}

-- the fault is the one for an error of the parser of this kind
abbrev pub IsFaultBy : ErrorKind → LineFault → Type 0
IsFaultBy kind (Help text) = IsAskedFor kind
IsFaultBy kind (Refused text) = (IsAskedFor kind → ⊥) × (kind ≢ OutOfMemory)
IsFaultBy kind (BadStart at) = ⊥
IsFaultBy kind TooManyWords = ⊥
IsFaultBy kind NoSuchPriority = ⊥
IsFaultBy kind (Excluded exclusion) = ⊥
IsFaultBy kind NoMemory = kind ≡ OutOfMemory

-- what was asked for is out of range in this way, or memory was wanting
abbrev pub IsOutOfRange : Asked → LineFault → Type 0
IsOutOfRange a (Help text) = ⊥
IsOutOfRange a (Refused text) = ⊥
IsOutOfRange a (BadStart at) = StartsAmiss at a
IsOutOfRange a TooManyWords = Overflows a
IsOutOfRange a NoSuchPriority = RanksByNone a
IsOutOfRange a (Excluded exclusion) = AsksForBoth exclusion a
IsOutOfRange a NoMemory = Unit {0}
