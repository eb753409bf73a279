-- The values of registers in a table, and of others in an ordered map.
use Rattle.std.specs.Prelude.{ℕ, ◌++◌, List, ℤ}
use Rattle.std.specs.List.{enumerate_from}
use Rattle.std.specs.FinMap.{from_entries}
use Rattle.iloc_meaning.specs.Registers.{Values}

-- the values that a table and other entries give
abbrev pub values : List ℤ → List (ℕ × ℤ) → Values
values table others = from_entries (enumerate_from 0 table ++ others)
