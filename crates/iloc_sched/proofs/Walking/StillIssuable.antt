-- Who can be issued once another was; for `Waiting::issue_first`.
use Rattle.iloc_sched.proofs.Common.{◌≡◌, ℕ, ◌+◌, ◌-◌, ◌<◌, false, ◌≢◌, Some, None, sym, ◌∙◌, arith, CanIssue, KeepsPlaces, Progress, Waits, Graph, IsGraph}
use Rattle.iloc_sched.proofs.Walking.EdgeWalk.{within_count}
use Rattle.iloc_sched.proofs.Walking.UnmetEdges.{count_none, count_some}

module _ (graph : Graph) (w w' : Progress) (c i : ℕ) (is : IsGraph graph)
    (waits : Waits graph w (c + 1) 0 None) (waits' : Waits graph w' (c + 1) 0 None)
    (at : w'.issued i ≡ Some c) (others : (k : ℕ) → k ≢ i → w'.issued k ≡ w.issued k) (keeps : KeepsPlaces w w')
  where
    -- who was completed by this has to wait for its result
    completed_before : (j : ℕ) → CanIssue graph w' (c + 1) j → 0 < w.unmet j → ⊥
    completed_before j can some =
        let one = count_some waits.is_unmet (graph.start j) (graph.start (j + 1) - graph.start j) (omega arith) in
        let x : ℕ = one.0 in
        let before : x < graph.start j + (graph.start (j + 1) - graph.start j) = one.2 in
        let last : x < graph.start (j + 1) = omega (arith, one.1) in
        let there : x < graph.count = within_count graph is j x can.there last in
        let into : graph.to x ≡ j = is.into j x can.there one.1 last in
        let met : waits'.is_unmet x ≡ false =
        count_none waits'.is_unmet (graph.start j) (graph.start (j + 1) - graph.start j)
        (sym (waits'.unmet j can.there) ∙ can.past_all) x one.1 before in
        let h = waits'.past x there met in
        grind arith

    pub can_issue_back : (j : ℕ) → CanIssue graph w' (c + 1) j → (j ≢ i) × CanIssue graph w (c + 1) j
    can_issue_back j can = grind (arith, completed_before)
