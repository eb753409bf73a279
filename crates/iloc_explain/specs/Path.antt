-- What binds in a schedule, from cycle 0 to its end.
use Rattle.std.specs.Prelude.{ℕ, ◌+◌, ◌-◌, ◌≡◌, ◌≢◌, ◌<◌, ◌≤◌, ◌⊎◌, List, [], ◌∷◌, length, reverse, slice_get, Some, None}
use Rattle.iloc_ops.specs.declared.op.Op.{Op}
use Rattle.iloc_meaning.specs.Trace.{op_at}
use Rattle.iloc_timed.specs.declared.latencies.Latencies.{Latencies}
use Rattle.iloc_timed.specs.declared.row.Row.{Row}
use Rattle.iloc_timed.specs.Cycles.{cycles}
use Rattle.iloc_timed.specs.Latency.{latency}
use Rattle.iloc_timed.specs.Rows.{row_at, issue_cycle}
use Rattle.iloc_rules.specs.declared.memory_rule.MemoryRule.{MemoryRule}
use Rattle.iloc_explain.specs.declared.path.Stretch.{Stretch}
use Rattle.iloc_explain.specs.declared.path.Stretch.TheVariants.{Delay, Held, Free}
use Rattle.iloc_explain.specs.Holding.{keeper}
use Rattle.iloc_explain.specs.Waiting.{IsReadyAt, waited_until}

-- how many cycles a stretch takes
abbrev pub span : Stretch → ℕ
span (Delay i d) = d
span (Held h) = 1
span (Free n) = n

-- the operation at which a stretch to operation j begins
abbrev pub origin : Stretch → ℕ → ℕ
origin (Delay i d) j = i
origin (Held h) j = h
origin (Free n) j = j

-- Operation j, ready in cycle r, had room in the n rows before cycle c, and not in one more in which it was ready.
pub record HadRoom (ops : List Op) (rows : List Row) (j r c n : ℕ) : Type 0 where
  pub some : 0 < n
  pub ready : r + n ≤ c
  pub room : (b : ℕ) → b < c → c ≤ b + n → keeper ops (row_at rows b) j ≡ None
  pub no_more : r + n < c → keeper ops (row_at rows (c - n - 1)) j ≢ None

-- What binds operation `j` in cycle `c`: a delay for the first operation for which it waited until then, an operation
-- that kept it out of the row before, or nothing for the rows before that had room.
abbrev pub Binds : MemoryRule → Latencies → List Op → List Row → ℕ → ℕ → Stretch → Type 0
Binds rule lat ops rows j c (Delay i d) =
    IsReadyAt rule lat ops rows j c × (slice_get (waited_until rule lat ops rows j c) 0 ≡ Some i) × (issue_cycle rows i + d ≡ c)
Binds rule lat ops rows j c (Held h) =
    (r : ℕ) × IsReadyAt rule lat ops rows j r × (r < c) × (keeper ops (row_at rows (c - 1)) j ≡ Some h)
Binds rule lat ops rows j c (Free n) = (r : ℕ) × IsReadyAt rule lat ops rows j r × HadRoom ops rows j r c n

-- A path begins in cycle 0; where rows aren't lawful, also in a cycle before the operation is ready.
abbrev pub Begins : MemoryRule → Latencies → List Op → List Row → ℕ → ℕ → Type 0
Begins rule lat ops rows j c = (c ≡ 0) ⊎ ((r : ℕ) × IsReadyAt rule lat ops rows j r × (c < r))

-- the stretches, the last first, lead back from operation `j` in cycle `c` to the beginning
abbrev pub LeadBack : MemoryRule → Latencies → List Op → List Row → ℕ → ℕ → List Stretch → Type 0
LeadBack rule lat ops rows j c [] = Begins rule lat ops rows j c
LeadBack rule lat ops rows j c (last ∷ before) =
    Binds rule lat ops rows j c last × LeadBack rule lat ops rows (origin last j) (c - span last) before

-- operation `j` is the first of all whose results arrive last
pub record IsLastToArrive (lat : Latencies) (ops : List Op) (rows : List Row) (j : ℕ) : Type 0 where
  pub known : j < length ops
  pub last : issue_cycle rows j + latency lat (op_at ops j) ≡ cycles lat ops rows
  pub first : (k : ℕ) → k < j → issue_cycle rows k + latency lat (op_at ops k) < cycles lat ops rows

-- The path: the stretches that lead back from the issue of that operation, and behind them its latency. Where there are no
-- operations it is empty.
abbrev pub IsPath : MemoryRule → Latencies → List Op → List Row → List Stretch → Type 0
IsPath rule lat [] rows path = path ≡ []
IsPath rule lat (op ∷ ops) rows path = (j : ℕ) × (before : List Stretch) × IsLastToArrive lat (op ∷ ops) rows j
    × LeadBack rule lat (op ∷ ops) rows j (issue_cycle rows j) before
    × (path ≡ reverse (Delay j (latency lat (op_at (op ∷ ops) j)) ∷ before))
