-- Where bytes stop, and what is wanted there.
use Rattle.std.specs.Prelude.{◌≡◌, ℕ, Bool, IsTrue, List, ◌++◌}
use Rattle.iloc_lint.specs.Row.{IsLeft, MayFollow}
use Rattle.iloc_lint.specs.declared.row.Wanted.{Wanted}

-- this is left of the bytes, and what is wanted there passes the test
abbrev pub StopsIn : (Wanted → Bool) → List ℕ → Wanted → List ℕ → Type 0
StopsIn test bytes wanted rest = IsLeft bytes rest × IsTrue (test wanted)

-- this is left of the line, and what is wanted may follow what it begins with
abbrev pub Stops : List ℕ → Wanted → List ℕ → Type 0
Stops line wanted rest = (front : List ℕ) × (line ≡ front ++ rest) × MayFollow front wanted
