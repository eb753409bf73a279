-- How many cycles rows take that are counted one after another.
use Rattle.std.specs.Prelude.{ℕ, ◌+◌, ◌<◌, ◌≤◌, List, [], length, Option, option_map, unwrap_or}
use Rattle.std.proofs.Common.{le_refl, not-suc-le-zero}
use Rattle.iloc_ops.specs.declared.op.Op.{Op}
use Rattle.iloc_meaning.specs.Trace.{op_at}
use Rattle.iloc_timed.specs.declared.latencies.Latencies.{Latencies}
use Rattle.iloc_timed.specs.declared.row.Row.{Row}
use Rattle.iloc_timed.specs.Latency.{latency}
use Rattle.iloc_timed.specs.Rows.{row_at}

-- when the result of what is issued in a slot at cycle `c` arrives; 0 for an empty slot
abbrev pub arrival : Latencies → List Op → ℕ → Option ℕ → ℕ
arrival lat ops c slot = unwrap_or (option_map (λ i. c + latency lat (op_at ops i)) slot) 0

-- each result of `rows` arrives by `n`
abbrev pub AllArriveBy : Latencies → List Op → List Row → ℕ → Type 0
AllArriveBy lat ops rows n = (c : ℕ) → c < length rows
    → (arrival lat ops c (row_at rows c).zero ≤ n) × (arrival lat ops c (row_at rows c).one ≤ n)

-- `last` is the latest arrival of `rows`, or `start` where none is later
pub record IsLatest (lat : Latencies) (ops : List Op) (start : ℕ) (rows : List Row) (last : ℕ) : Type 0 where
  pub from : start ≤ last
  pub each : AllArriveBy lat ops rows last
  pub least : (n : ℕ) → start ≤ n → AllArriveBy lat ops rows n → last ≤ n

-- of no rows it is the start
pub none_later : (lat : Latencies) (ops : List Op) (start : ℕ) → IsLatest lat ops start [] start
none_later lat ops start = record {
  from = le_refl start;
  each = λ c below. absurd (not-suc-le-zero below);
  least = λ n from all. from;
}
