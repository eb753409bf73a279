-- How listings name their numbers.
use Rattle.std.specs.Prelude.{ℕ, List, ◌++◌, codes}
use Rattle.std.specs.Fmt.{decimal}

-- ` NAME N`
abbrev pub column : List ℕ → ℕ → List ℕ
column name n = codes " " ++ name ++ codes " " ++ decimal n
