use Rattle.iloc_rules.proofs.Common.{ℕ, ◌+◌, ◌-◌, ◌<◌, ◌≤◌, ◌↔◌, List, length, arith, Op, Latencies, priority, start}
use Rattle.iloc_rules.specs.Heuristics.{through, longest, slack}
use Rattle.iloc_rules.proofs.Basics.Members.{in_at}
use Rattle.iloc_rules.proofs.Basics.Maxima.{fold_max_each}
use Rattle.iloc_rules.proofs.PriorityValues.Longest.{is_priority, length-priorities}
use Rattle.iloc_rules.proofs.PriorityValues.Starts.{start_least}
use Rattle.iloc_rules.proofs.laws.less_slack_is_a_longer_chain.Goals as goal

-- No chain through an operation is longer than the longest, so slacks turn the order round:
-- `laws::less_slack_is_a_longer_chain`.
own_most : (lat : Latencies) (ops : List Op) (i : ℕ) → i < length ops → priority lat ops i ≤ longest lat ops
own_most lat ops i within = grind (arith, fold_max_each, in_at, length-priorities)

through_most : (lat : Latencies) (ops : List Op) (i : ℕ) → i < length ops
    → start lat ops i + priority lat ops i ≤ longest lat ops
through_most lat ops i within =
    let begun = start_least lat ops (λ k. longest lat ops - priority lat ops k)
    (λ k j d pair. omega (arith, (is_priority lat ops).pairs k j d pair, own_most lat ops k (omega (arith, pair.order, pair.within))))
    i within in
    omega (arith, own_most lat ops i within)

less_slack : (lat : Latencies) (ops : List Op) (i j : ℕ) → i < length ops → j < length ops
    → (slack lat ops i < slack lat ops j) ↔ (through lat ops j < through lat ops i)
less_slack lat ops i j i_within j_within = grind (arith, through_most)

pub returns : goal.returns
returns c = less_slack
