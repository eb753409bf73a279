-- The finished schedule: `Scheduler::feed`, `Scheduler::lend`.
use Rattle.iloc_sched.proofs.Common.{◌≡◌, ◌≤◌, ℕ, List, length, sym, ap, ◌∙◌, subst, arith, Op, Latencies, Row, IsGreedyWhere, counts_by, priorities_by_where, priorities_under, renamed, ruled_priorities, GraphOf, MemoryRule}
use Rattle.iloc_timed.specs.Schedule.{Table}
use Rattle.iloc_sched.specs.Graph.GraphOf.{of_block}
use Rattle.iloc_sched.specs.Scheduled.{AreRowsBy, IsTheScheduleBy}
use Rattle.iloc_rules.specs.declared.heuristic.Heuristic.{Heuristic}
use Rattle.iloc_rules.proofs.Bounds.PriorityBound.{ruled_priority_bound}
use Rattle.iloc_rules.proofs.Bounds.BusyCycles.{busy_bound_where}
use Rattle.iloc_rules.proofs.Outcome.LawfulOutcomes.{ruled_same_outcome}
use Rattle.iloc_rules.proofs.Choice.OneGreedy.{greedy_same_where}

-- a greedy schedule has all that is promised of it
pub the_schedule : (rule : MemoryRule) (by : List Op → List ℕ) (lat : Latencies) (block : List Op) (s : Table)
    → IsGreedyWhere (counts_by rule s.ops) (by s.ops) lat block s.ops s.rows → IsTheScheduleBy rule by lat block s
the_schedule rule by lat block s greedy = record {
  greedy = greedy;
  only = λ ops rows other.
      greedy_same_where (counts_by rule s.ops) (by s.ops) lat block ops s.ops rows s.rows
      (subst (λ xs. IsGreedyWhere (counts_by rule xs) (by xs) lat block ops rows)
      (other.lawful.names ∙ sym greedy.lawful.names) other) greedy;
  outcome = λ ops rows memory lawful. ruled_same_outcome rule lat block ops rows memory lawful;
  least = λ i below. ruled_priority_bound rule lat s.ops s.rows greedy.lawful.waits i below;
  most = busy_bound_where (counts_by rule s.ops) (by s.ops) lat block s.ops s.rows greedy;
}

-- greedy rows are those of the schedule
pub are_rows : (graph : GraphOf) (ranks : List ℕ) (rows : List Row) (named : (block : List Op) × (graph.ops ≡ renamed block))
    → length rows ≤ 160001
    → ((block : List Op) → graph.ops ≡ renamed block
    → IsGreedyWhere (counts_by graph.rule graph.ops) ranks graph.latencies block graph.ops rows)
    → AreRowsBy (λ _ _ _. ranks) graph rows
are_rows graph ranks rows named few greedy = record {
  table = (greedy named.0 named.1).lawful.table;
  few = omega arith;
  schedule = λ rule lat block is. the_schedule rule (λ _. ranks) lat block (record { ops = graph.ops; rows = rows })
      (subst (λ (g : GraphOf). IsGreedyWhere (counts_by g.rule graph.ops) ranks g.latencies block graph.ops rows) is
      (greedy block (ap (λ (g : GraphOf). g.ops) is)));
}

-- and by the heuristic that gave the priorities
pub are_rows_as : (graph : GraphOf) (heuristic : Heuristic) (ranks : List ℕ) (rows : List Row)
    → ranks ≡ priorities_by_where (counts_by graph.rule graph.ops) heuristic graph.latencies graph.ops
    → AreRowsBy (λ _ _ _. ranks) graph rows → AreRowsBy (λ rule lat. priorities_under rule heuristic lat) graph rows
are_rows_as graph heuristic ranks rows given are = record {
  table = are.table;
  few = are.few;
  schedule = λ rule lat block is. the_schedule rule (priorities_under rule heuristic lat) lat block (record { ops = graph.ops; rows = rows })
      (subst (λ prios. IsGreedyWhere (counts_by rule graph.ops) prios lat block graph.ops rows)
      (given ∙ (ruled_priorities graph.rule heuristic graph.latencies graph.ops
      ∙ ap (λ (g : GraphOf). priorities_under g.rule heuristic g.latencies graph.ops) is))
      (are.schedule rule lat block is).greedy);
}

-- the rows that were taken, in a schedule
pub lent : (by : MemoryRule → Latencies → List Op → List ℕ) (graph : GraphOf) (rows taken : List Row) (s : Table) → taken ≡ rows
    → AreRowsBy by graph rows → s ≡ record { ops = graph.ops; rows = taken }
    → (rule : MemoryRule) (lat : Latencies) (block : List Op) → graph ≡ of_block rule lat block
    → IsTheScheduleBy rule (by rule lat) lat block s
lent by graph rows taken s same are is rule lat block of = rw (is, same) (are.schedule rule lat block of)
