-- Texts in which rows without an operation are kept as their number.
use Rattle.std.specs.Prelude.{ℕ, zero, suc, List, [], ◌∷◌, ◌++◌, take, drop, sum_by, codes}
use Rattle.iloc_listing.specs.declared.text.EmptyRows.{EmptyRows}

-- a number of rows without an operation, as they are listed
abbrev pub empty_rows : ℕ → List ℕ
empty_rows zero = []
empty_rows (suc n) = codes "[ nop ; nop ]\n" ++ empty_rows n

-- the text of `bytes` and the runs of rows among them
abbrev pub unfolded : List EmptyRows → List ℕ → List ℕ
unfolded [] bytes = bytes
unfolded (run ∷ runs) bytes = take run.bytes bytes ++ (empty_rows run.rows ++ unfolded runs (drop run.bytes bytes))

-- how many of the bytes precede the last run
abbrev pub bytes_before : List EmptyRows → ℕ
bytes_before runs = sum_by (λ run. run.bytes) runs
