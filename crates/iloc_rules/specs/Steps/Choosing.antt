-- A schedule that is being made, row after row.
use Rattle.std.specs.Prelude.{ℕ, ◌≡◌, ◌<◌, ◌≤◌, ◌⊎◌, List, length, slice_index}
use Rattle.iloc_ops.specs.declared.op.Op.{Op}
use Rattle.iloc_timed.specs.declared.latencies.Latencies.{Latencies}
use Rattle.iloc_timed.specs.declared.row.Row.{Row}
use Rattle.iloc_timed.specs.Rows.{row_at}
use Rattle.iloc_rules.specs.Delays.{Counts, all_count}
use Rattle.iloc_rules.specs.Greedy.{ready_where, chosen}

-- by `counts`, each row so far is the choice by the priorities `prios` from what was ready
abbrev pub IsChosenWhere : Counts → List ℕ → Latencies → List Op → List Row → Type 0
IsChosenWhere counts prios lat ops rows =
    (c : ℕ) → c < length rows → row_at rows c ≡ chosen ops prios (ready_where counts lat ops rows c)

-- the same where all count
abbrev pub IsChosenSoFar : List ℕ → Latencies → List Op → List Row → Type 0
IsChosenSoFar = IsChosenWhere all_count

-- operation i has the higher priority, or the same and no higher number
abbrev pub GoesBefore : List ℕ → ℕ → ℕ → Type 0
GoesBefore prios i j =
    (slice_index prios j < slice_index prios i) ⊎ ((slice_index prios i ≡ slice_index prios j) × (i ≤ j))
