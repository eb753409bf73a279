-- What is said of a text with rows that is refused.
use Rattle.std.specs.Prelude.{ℕ, List, codes}
use Rattle.iloc_text.specs.Fault.{of_line, fault_text}
use Rattle.iloc_rows.specs.declared.fault.RowsFault.{RowsFault}
use Rattle.iloc_rows.specs.declared.fault.RowsFault.TheVariants.{Read, NoBlocks, NoSuchBlock}

abbrev pub rows_fault_text : RowsFault → List ℕ
rows_fault_text (Read fault) = fault_text fault
rows_fault_text NoBlocks = codes "no blocks"
rows_fault_text (NoSuchBlock n) = of_line n (codes ": expected \"block K NAME\" with the number and the name of a later block, - for no name")
