-- Cycle by cycle: what is ready, by rank, what is under way, and what comes next.
use Rattle.std.specs.Prelude.{ℕ, zero, suc, ◌+◌, ◌-◌, ◌==◌, not, nat_lt, Bool, if◌then◌else◌, List, [], ◌∷◌, length, take, filter, Option, Some, None, option_map}
use Rattle.iloc_ops.specs.declared.op.Op.{Op}
use Rattle.iloc_meaning.specs.Trace.{op_at}
use Rattle.iloc_timed.specs.declared.latencies.Latencies.{Latencies}
use Rattle.iloc_timed.specs.declared.row.Row.{Row}
use Rattle.iloc_timed.specs.Latency.{latency}
use Rattle.iloc_timed.specs.Rows.{row_at, holds, issue_cycle}
use Rattle.iloc_rules.specs.declared.memory_rule.MemoryRule.{MemoryRule}
use Rattle.iloc_rules.specs.Greedy.{first_of_all, ready_where}
use Rattle.iloc_rules.specs.Rule.{counts_by}
use Rattle.iloc_explain.specs.Waiting.{issue_order}

-- a number, if there is one, and what follows it
abbrev pub with_rest : (ℕ → List ℕ) → Option ℕ → List ℕ
with_rest rest None = []
with_rest rest (Some i) = i ∷ rest i

-- the first n of the candidates by rank: the first of all, and then the first of the others
abbrev pub first_ranked : ℕ → List ℕ → List ℕ → List ℕ
first_ranked zero prios candidates = []
first_ranked (suc n) prios candidates =
    with_rest (λ i. first_ranked n prios (filter (λ j. not (i == j)) candidates)) (first_of_all prios candidates)

module _ (rule : MemoryRule) (lat : Latencies) (ops : List Op) (rows : List Row) where
  -- what is ready at cycle c by a rule of memory
  abbrev pub ready_under : ℕ → List ℕ
  ready_under c = ready_where (counts_by rule ops) lat ops rows c

  -- whether nothing is ready at cycle c
  abbrev pub is_idle : ℕ → Bool
  is_idle c = length (ready_under c) == 0

  -- the first of n cycles from c on at which something is ready, else the cycle after them
  abbrev pub busy_from : ℕ → ℕ → ℕ
  busy_from zero c = c
  busy_from (suc n) c = if is_idle c then busy_from n (c + 1) else c

  -- the next cycle after c at which something is ready, else the number of rows
  abbrev pub next_busy : ℕ → ℕ
  next_busy c = busy_from (length rows - (c + 1)) (c + 1)

  -- the first of what is ready then, after the cycle
  abbrev pub next_ready : List ℕ → ℕ → Option (ℕ × ℕ)
  next_ready prios c = option_map (λ j. (next_busy c, j)) (first_of_all prios (ready_under (next_busy c)))

  -- what is ready at cycle c and stays out of its row
  abbrev pub left_out : ℕ → List ℕ
  left_out c = filter (λ j. not (holds (row_at rows c) j)) (ready_under c)

module _ (lat : Latencies) (ops : List Op) (rows : List Row) where
  -- the cycle at which the result of operation i arrives
  abbrev pub arrival : ℕ → ℕ
  arrival i = issue_cycle rows i + latency lat (op_at ops i)

  -- what was issued before cycle c and arrives after it, in the order of issue
  abbrev pub under_way : ℕ → List ℕ
  under_way c = filter (λ i. nat_lt c (arrival i)) (issue_order (take c rows))
