-- Issue and priority are at most the cycles: `laws::priorities_bound_the_cycles`, `schedule` (`least`).
use Rattle.iloc_rules.proofs.Common.{ℕ, ◌+◌, ◌-◌, ◌<◌, ◌≤◌, List, length, arith, Op, issue_cycle, Latencies, Row, by_address, Counts, priority, priority_where, counts_by, priority_under, MemoryRule, Address, Book}
use Rattle.iloc_timed.specs.Cycles.{cycles}
use Rattle.iloc_timed.proofs.Arrivals.{arrival_le_cycles}
use Rattle.iloc_rules.proofs.DelayPairs.WaitedFor.{WaitsWhere, Waits}
use Rattle.iloc_rules.proofs.PriorityValues.Longest.{priority_least}
use Rattle.iloc_rules.proofs.PriorityValues.LongestWhere.{priority_least_where}

-- an operation is issued so early that its priority is left
pub priority_bound : (lat : Latencies) (ops : List Op) (rows : List Row) → Waits lat ops rows → (i : ℕ) → i < length ops
    → issue_cycle rows i + priority lat ops i ≤ cycles lat ops rows
priority_bound lat ops rows waits i within =
    let left = priority_least lat ops (λ k. cycles lat ops rows - issue_cycle rows k)
    (λ k below. omega (arith, arrival_le_cycles lat ops rows k below))
    (λ k j d pair. omega (arith, waits k j d pair, arrival_le_cycles lat ops rows j pair.within)) i within in
    omega (arith, arrival_le_cycles lat ops rows i within)

-- so whichever count
pub priority_bound_where : (counts : Counts) (lat : Latencies) (ops : List Op) (rows : List Row)
    → WaitsWhere counts lat ops rows
    → (i : ℕ) → i < length ops → issue_cycle rows i + priority_where counts lat ops i ≤ cycles lat ops rows
priority_bound_where counts lat ops rows waits i within =
    let left = priority_least_where counts lat ops (λ k. cycles lat ops rows - issue_cycle rows k)
    (λ k below. omega (arith, arrival_le_cycles lat ops rows k below))
    (λ k j d pair. omega (arith, waits k j d pair, arrival_le_cycles lat ops rows j pair.within)) i within in
    omega (arith, arrival_le_cycles lat ops rows i within)

-- and whichever the rule
pub ruled_priority_bound : (rule : MemoryRule) (lat : Latencies) (ops : List Op) (rows : List Row)
    → WaitsWhere (counts_by rule ops) lat ops rows
    → (i : ℕ) → i < length ops → issue_cycle rows i + priority_under rule lat ops i ≤ cycles lat ops rows
ruled_priority_bound Book lat ops rows waits i within = priority_bound lat ops rows waits i within
ruled_priority_bound Address lat ops rows waits i within =
    priority_bound_where (by_address ops) lat ops rows waits i within
