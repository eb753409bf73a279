-- What holds of the faults of a text beside what the reader answers.
use Rattle.std.specs.Prelude.{◌≡◌, ℕ, List, [], ◌∷◌, length}
use Rattle.iloc_ops.specs.declared.file.Block.{Block}
use Rattle.iloc_text.specs.Files.{Denotes, IsRefused}
use Rattle.iloc_lint.specs.Faults.{Refusal, IsLinted}

-- a text without faults denotes a file, with as many blocks as are counted
abbrev pub NoFaultsMeanAFile : Type 0
NoFaultsMeanAFile = (input : List ℕ) (blocks ops : ℕ) → IsLinted input [] blocks ops
    → (file : List Block) × Denotes input file × (length file ≡ blocks)

-- the first fault is what the reader refuses the text for
abbrev pub TheFirstIsTheReaders : Type 0
TheFirstIsTheReaders = (input : List ℕ) (first : Refusal) (others : List Refusal) (blocks ops : ℕ)
    → IsLinted input (first ∷ others) blocks ops → IsRefused input first.fault
