-- `run` lists what comes of each block, one operation after another.
use Rattle.std.specs.Prelude.{◌≡◌, ◌+◌, ◌++◌, ℕ, Bool, true, false, List, Some, None, ℤ, codes}
use Rattle.std.specs.Fmt.{decimal, signed_decimal}
use Rattle.iloc_ops.specs.Spelling.{spelling}
use Rattle.iloc_ops.specs.declared.op.Op.{Op}
use Rattle.iloc_ops.specs.declared.file.Block.{Block}
use Rattle.iloc_fault.specs.Place.{IsFaultPlace}
use Rattle.iloc_fault.specs.declared.place.FaultPlace.{FaultPlace}
use Rattle.iloc_meaning.specs.Outcome.{outcome}
use Rattle.iloc_meaning.specs.Trace.{op_at}
use Rattle.iloc_meaning.specs.declared.outcome.Outcome.{Outcome}
use Rattle.iloc_meaning.specs.declared.outcome.Outcome.TheVariants.{Finished, Fault}
use Rattle.iloc_args.specs.Flags.{has}
use Rattle.iloc_args.specs.declared.flag.Flag.TheVariants.{Where}
use Rattle.iloc_args.specs.declared.request.Request.{Request}
use Rattle.iloc_listing.specs.Listing.{block_head, words_or_fault}
use Rattle.iloc_driver.specs.Command.{Command, initial_memory, of_files}
use Rattle.iloc_driver.specs.Entries.{IsListingOf, no_ending}

-- `fault at N: OP`, where operations count from 1
abbrev pub faulting_told : List Op → ℕ → List ℕ
faulting_told ops i = codes "fault at " ++ decimal (i + 1) ++ codes ": " ++ spelling (op_at ops i)

-- `fault at N: OP: word A`
abbrev pub place_line : List Op → FaultPlace → List ℕ
place_line ops place =
    faulting_told ops place.operation ++ codes ": word " ++ signed_decimal place.address ++ codes "\n"

-- This is shown of operations with this outcome on a memory: the words that they emit, or that they fault, with the place if
-- that is asked for.
abbrev pub IsShownOf : Bool → List Op → List ℤ → Outcome → List ℕ → Type 0
IsShownOf place_asked ops memory (Finished words left) text = text ≡ words_or_fault (Some words)
IsShownOf false ops memory Fault text = text ≡ words_or_fault None
IsShownOf true ops memory Fault text =
    (place : FaultPlace) × IsFaultPlace ops memory place × (text ≡ place_line ops place)

-- The entry of block k: its number and its name, and what is shown of it on the request's memory. No more is found of it.
pub record IsRunEntry (request : Request) (k : ℕ) (block : Block) (entry : List ℕ) (found : Unit {0}) : Type 0 where
  pub text : List ℕ
  pub shows : IsShownOf (has request.flags Where) block.ops (initial_memory request) (outcome block.ops (initial_memory request)) text
  pub listed : entry ≡ block_head k block.name ++ codes "\n" ++ text

abbrev pub run_command : Command
run_command = of_files (λ request own. IsListingOf (IsRunEntry request) no_ending)
