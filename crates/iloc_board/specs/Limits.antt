-- How much a board may hold.
use Rattle.std.specs.Prelude.{ℕ}

-- a board has at most 65,535 jobs
abbrev pub MOST_JOBS : ℕ
MOST_JOBS = 65535

-- an answer costs at most 4,294,967,296
abbrev pub MOST_COST : ℕ
MOST_COST = 4294967296
