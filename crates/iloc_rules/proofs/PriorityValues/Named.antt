-- Each heuristic in the list of all, and its priorities as a list, one for each operation; for `fill_ranks`.
use Rattle.iloc_rules.proofs.Common.{◌≡◌, ℕ, ◌+◌, List, map, length, slice_index, refl, ap, arith, length-map, length-map-range_with_len, range_with_len, Op, Latencies, Counts, all_count, counts_by, priorities_under, start, In, MemoryRule, Address, Book}
use Rattle.iloc_rules.specs.declared.heuristic.Heuristic.{Heuristic}
use Rattle.iloc_rules.specs.declared.heuristic.Heuristic.TheVariants as H
use Rattle.iloc_rules.specs.Heuristics.{priorities_by, priorities_by_where}
use Rattle.iloc_rules.specs.Heuristics.Listed.{heuristics}
use Rattle.iloc_rules.proofs.PriorityValues.Longest.{length-priorities}
use Rattle.iloc_rules.proofs.PriorityValues.LongestWhere.{length_where, priorities_all}

-- each is listed
pub listed : (heuristic : Heuristic) → In heuristics heuristic
listed heuristic = grind arith

pub length-priorities_by : (heuristic : Heuristic) (lat : Latencies) (ops : List Op)
    → length (priorities_by heuristic lat ops) ≡ length ops
length-priorities_by heuristic lat ops = grind (arith, length-map, length-map-range_with_len, length-priorities)

pub length-priorities_by_where : (counts : Counts) (heuristic : Heuristic) (lat : Latencies) (ops : List Op)
    → length (priorities_by_where counts heuristic lat ops) ≡ length ops
length-priorities_by_where counts heuristic lat ops =
    grind (arith, length-map, length-map-range_with_len, length_where)

-- where all count these are the priorities
pub priorities_by_all : (heuristic : Heuristic) (lat : Latencies) (ops : List Op)
    → priorities_by_where all_count heuristic lat ops ≡ priorities_by heuristic lat ops
priorities_by_all H.Chain lat ops = priorities_all lat ops
priorities_by_all H.Slack lat ops = ap (λ (prios : List ℕ). map (λ i. start lat ops i + slice_index prios i) (range_with_len 0 (length ops)))
    (priorities_all lat ops)
priorities_by_all H.Descendants lat ops = refl
priorities_by_all H.Successors lat ops = refl
priorities_by_all H.Latency lat ops = refl
priorities_by_all H.Order lat ops = refl

-- by a rule these are its priorities
pub ruled_priorities : (rule : MemoryRule) (heuristic : Heuristic) (lat : Latencies) (ops : List Op)
    → priorities_by_where (counts_by rule ops) heuristic lat ops ≡ priorities_under rule heuristic lat ops
ruled_priorities Book heuristic lat ops = priorities_by_all heuristic lat ops
ruled_priorities Address heuristic lat ops = refl
