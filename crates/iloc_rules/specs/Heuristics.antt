-- Other priorities, by which the same choice is made.
use Rattle.std.specs.Prelude.{ℕ, zero, suc, ◌+◌, ◌-◌, max, nat_lt, ◌==◌, ◌||◌, ◌&&◌, Bool, false, List, length, map, fold, count_by}
use Rattle.std.specs.List.{list_any, range_with_len}
use Rattle.iloc_ops.specs.declared.op.Op.{Op}
use Rattle.iloc_meaning.specs.Trace.{op_at}
use Rattle.iloc_timed.specs.declared.latencies.Latencies.{Latencies}
use Rattle.iloc_timed.specs.Latency.{latency}
use Rattle.iloc_rules.specs.declared.heuristic.Heuristic.{Heuristic}
use Rattle.iloc_rules.specs.declared.heuristic.Heuristic.TheVariants.{Chain, Slack, Descendants, Successors, Latency, Order}
use Rattle.iloc_rules.specs.declared.memory_rule.MemoryRule.{MemoryRule}
use Rattle.iloc_rules.specs.declared.memory_rule.MemoryRule.TheVariants.{Book, Address}
use Rattle.iloc_rules.specs.Apart.{by_address}
use Rattle.iloc_rules.specs.Delays.{Counts, all_count, delays_where}
use Rattle.iloc_rules.specs.Priority.{priorities, priority, priorities_where, priority_where}
use Rattle.iloc_rules.specs.Starts.{start, start_where}
pub mod Listed

-- the length of the longest chain of delays through operation i
abbrev pub through : Latencies → List Op → ℕ → ℕ
through lat ops i = start lat ops i + priority lat ops i

-- the same by `counts`
abbrev pub through_where : Counts → Latencies → List Op → ℕ → ℕ
through_where counts lat ops i = start_where counts lat ops i + priority_where counts lat ops i

-- the length of the longest chain of delays
abbrev pub longest : Latencies → List Op → ℕ
longest lat ops = fold max 0 (priorities lat ops)

-- the slack of operation i: how far its latest start, by the longest chain of all, exceeds its start
abbrev pub slack : Latencies → List Op → ℕ → ℕ
slack lat ops i = longest lat ops - priority lat ops i - start lat ops i

-- whether operation `j` has to wait for operation `i`, by `counts`
abbrev pub waits_for_where : Counts → Latencies → List Op → ℕ → ℕ → Bool
waits_for_where counts lat ops i j =
    nat_lt i j && nat_lt 0 (length (delays_where (counts i j) lat (op_at ops i) (op_at ops j)))

-- how many operations wait for operation i directly
abbrev pub successors_where : Counts → Latencies → List Op → ℕ → ℕ
successors_where counts lat ops i = count_by (waits_for_where counts lat ops i) (range_with_len 0 (length ops))

-- whether a chain of delays leads from operation i to operation j, of n at most
abbrev pub depends_where : Counts → Latencies → List Op → ℕ → ℕ → ℕ → Bool
depends_where counts lat ops zero i j = false
depends_where counts lat ops (suc n) i j =
    list_any (λ k. waits_for_where counts lat ops i k && ((k == j) || depends_where counts lat ops n k j))
    (range_with_len 0 (length ops))

-- whether operation j depends on operation i
abbrev pub depends_on_where : Counts → Latencies → List Op → ℕ → ℕ → Bool
depends_on_where counts lat ops i j = depends_where counts lat ops (length ops) i j

-- how many operations depend on operation i
abbrev pub descendants_where : Counts → Latencies → List Op → ℕ → ℕ
descendants_where counts lat ops i = count_by (depends_on_where counts lat ops i) (range_with_len 0 (length ops))

-- the same where all count
abbrev pub waits_for : Latencies → List Op → ℕ → ℕ → Bool
waits_for = waits_for_where all_count

abbrev pub successors : Latencies → List Op → ℕ → ℕ
successors = successors_where all_count

abbrev pub descendants : Latencies → List Op → ℕ → ℕ
descendants = descendants_where all_count

-- the priorities of renamed operations by a heuristic
abbrev pub priorities_by : Heuristic → Latencies → List Op → List ℕ
priorities_by Chain lat ops = priorities lat ops
priorities_by Slack lat ops = map (through lat ops) (range_with_len 0 (length ops))
priorities_by Descendants lat ops = map (descendants lat ops) (range_with_len 0 (length ops))
priorities_by Successors lat ops = map (successors lat ops) (range_with_len 0 (length ops))
priorities_by Latency lat ops = map (latency lat) ops
priorities_by Order lat ops = map (λ op. 0) ops

-- the same by `counts`
abbrev pub priorities_by_where : Counts → Heuristic → Latencies → List Op → List ℕ
priorities_by_where counts Chain lat ops = priorities_where counts lat ops
priorities_by_where counts Slack lat ops = map (through_where counts lat ops) (range_with_len 0 (length ops))
priorities_by_where counts Descendants lat ops = map (descendants_where counts lat ops) (range_with_len 0 (length ops))
priorities_by_where counts Successors lat ops = map (successors_where counts lat ops) (range_with_len 0 (length ops))
priorities_by_where counts Latency lat ops = map (latency lat) ops
priorities_by_where counts Order lat ops = map (λ op. 0) ops

-- the priorities of renamed operations by a rule and a heuristic
abbrev pub priorities_under : MemoryRule → Heuristic → Latencies → List Op → List ℕ
priorities_under Book heuristic lat ops = priorities_by heuristic lat ops
priorities_under Address heuristic lat ops = priorities_by_where (by_address ops) heuristic lat ops
