-- What is said of a text that is refused.
use Rattle.std.specs.Prelude.{ℕ, List, ◌++◌, codes}
use Rattle.std.specs.Fmt.{decimal}
use Rattle.iloc_text.specs.declared.fault.ReadFault.{ReadFault}
use Rattle.iloc_text.specs.declared.fault.ReadFault.TheVariants.{InputTooLong, BadLine, NumberTooLarge, TooManyBlocks, TooManyOperations, NoMemory}

-- the number of a line, and what is wrong with it
abbrev pub of_line : ℕ → List ℕ → List ℕ
of_line n what = codes "line " ++ (decimal n ++ what)

-- what is said of a fault in a text
abbrev pub fault_text : ReadFault → List ℕ
fault_text InputTooLong = codes "input longer than 16777216 bytes"
fault_text (BadLine n) = of_line n (codes ": not understood")
fault_text (NumberTooLarge n) = of_line n (codes ": number above 2147483647")
fault_text (TooManyBlocks n) = of_line n (codes ": more than 65535 blocks")
fault_text (TooManyOperations n) = of_line n (codes ": more than 10000 operations in a block")
fault_text NoMemory = codes "out of memory"
