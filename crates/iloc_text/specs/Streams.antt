-- Texts that a stream gives.
use Rattle.std.specs.Prelude.{◌≢◌, ℕ, ◌+◌, ◌≤◌, List, Option, length}
use Rattle.std.specs.Io.KnownBytes.{Consumes, IsAtEnd}
use Rattle.iloc_ops.specs.Limits.{MAX_INPUT}
use Rattle.iloc_text.specs.declared.fault.InputFault.{InputFault}
use Rattle.iloc_text.specs.declared.fault.InputFault.TheVariants as input
use Rattle.iloc_text.specs.declared.fault.ReadFault.TheVariants.{NoMemory}
use Rattle.iloc_text.specs.declared.fault.StreamFault.{StreamFault}
use Rattle.iloc_text.specs.declared.fault.StreamFault.TheVariants.{ReadFailed, Text}
use Rattle.iloc_text.specs.Files.{IsRefused}

-- the text was read from the stream, to its end or until one byte more had come than a text may have
pub record ReadsText (old new : Option (List ℕ)) (text : List ℕ) : Type 0 where
  pub taken : Consumes old new text
  pub most : length text ≤ MAX_INPUT + 1
  pub whole : length text ≤ MAX_INPUT → IsAtEnd new

-- what holds where no file was read for this fault: a text that is refused was read, and denotes this refusal
abbrev pub EndsStream : Option (List ℕ) → Option (List ℕ) → StreamFault → Type 0
EndsStream old new ReadFailed = Unit {0}
EndsStream old new (Text fault) = fault ≢ NoMemory → (text : List ℕ) × ReadsText old new text × IsRefused text fault

-- the fault of a file whose text wasn't read
abbrev pub stream_fault_of : InputFault → StreamFault
stream_fault_of input.ReadFailed = ReadFailed
stream_fault_of input.NoMemory = Text NoMemory
