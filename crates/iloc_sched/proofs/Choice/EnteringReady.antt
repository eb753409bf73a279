-- What is ready is just what can be issued, as more becomes ready and as a choice is issued; for `Waiting::release`,
-- `issue_first`.
use Rattle.iloc_sched.proofs.Common.{◌≡◌, ℕ, ◌+◌, ◌%◌, ◌<◌, Bool, true, ◌≢◌, List, get_or, Some, None, arith, or_cases, Releases, has, CanIssue, KeepsPlaces, Progress, Waits, IsQueued, Graph, IsGraph, Calendar}
use Rattle.iloc_sched.proofs.Walking.BucketOfCycle.{due_now, then_due, later_still}
use Rattle.iloc_sched.proofs.Walking.StillIssuable.{can_issue_back}

-- the same but for the buckets
still_can : (graph : Graph) (w : Progress) (f j : ℕ) (bucket' : ℕ → ℕ → Bool) → CanIssue graph w f j
    → CanIssue graph (record w { bucket = bucket' }) f j
still_can graph w f j bucket' can = record { there = can.there; waiting = can.waiting; past_all = can.past_all; soon = can.soon }

back_can : (graph : Graph) (w : Progress) (f j : ℕ) (bucket' : ℕ → ℕ → Bool) → CanIssue graph (record w { bucket = bucket' }) f j
    → CanIssue graph w f j
back_can graph w f j bucket' can = record { there = can.there; waiting = can.waiting; past_all = can.past_all; soon = can.soon }

-- what is in the bucket of cycle c becomes ready
pub queued_with_due : (ranks : List ℕ) (graph : Graph) (w : Progress) (c : ℕ) (k k' : Calendar) (bucket' : ℕ → ℕ → Bool) → IsGraph graph
    → ((j : ℕ) → w.bucket (c % 32) j ≡ has k (c % 32) (get_or ranks j 0))
    → Waits graph w c 0 None → IsQueued ranks graph w c k → Releases k k' (c % 32)
    → IsQueued ranks graph (record w { bucket = bucket' }) (c + 1) k'
queued_with_due ranks graph w c k k' bucket' is at waits queued released =
    grind (arith, back_can, due_now, later_still, or_cases, still_can, then_due)

-- once operation n was taken and issued
pub queued_after : (ranks : List ℕ) (graph : Graph) (w w' : Progress) (c n : ℕ) (k k' : Calendar) → IsGraph graph
    → Waits graph w (c + 1) 0 None → Waits graph w' (c + 1) 0 None → w'.issued n ≡ Some c
    → ((j : ℕ) → j ≢ n → w'.issued j ≡ w.issued j) → KeepsPlaces w w'
    → (has k' 32 (get_or ranks n 0) ≡ true → ⊥)
    → ((j : ℕ) → j < graph.ops → j ≢ n → has k' 32 (get_or ranks j 0) ≡ has k 32 (get_or ranks j 0))
    → IsQueued ranks graph w (c + 1) k → IsQueued ranks graph w' (c + 1) k'
queued_after ranks graph w w' c n k k' is waits waits' at others keeps gone kept queued = grind (arith, can_issue_back)
