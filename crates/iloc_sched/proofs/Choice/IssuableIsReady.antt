-- What the tables say can be issued is what is ready; for `Waiting::step`.
use Rattle.iloc_sched.proofs.Common.{◌≡◌, ℕ, ◌+◌, ◌-◌, ◌<◌, ◌≤◌, false, List, length, None, sym, ap, ◌∙◌, subst, inl, inr, arith, Op, issue_cycle, slots, Latencies, Row, Counts, IsDelayPairWhere, ready_where, IsChosenWhere, In, CanIssue, MatchesRows, Progress, Waits, count_from, Graph, IsGraphWhere, LeadsTo}
use Rattle.iloc_rules.proofs.Choice.Ready.{IsReadyWhere, ready_means_where, ready_from_where}
use Rattle.iloc_rules.proofs.Basics.Slots.{stands_there}
use Rattle.iloc_rules.proofs.Choice.ChosenRows.{chosen_in}
use Rattle.iloc_sched.proofs.Basics.Cases.{by_lt, none_of}
use Rattle.iloc_sched.proofs.Walking.EdgeWalk.{within_count}
use Rattle.iloc_sched.proofs.Walking.UnmetEdges.{count_none, count_some}
use Rattle.iloc_sched.proofs.KeptEdges.FarPairs.{kept_is_over}

-- what was issued had waited for its delays
pub waited : (counts : Counts) (prios : List ℕ) (lat : Latencies) (ops : List Op) (rows : List Row) → IsChosenWhere counts prios lat ops rows → (i h d : ℕ)
    → IsDelayPairWhere counts lat ops i h d → issue_cycle rows h < length rows → issue_cycle rows i + d ≤ issue_cycle rows h
waited counts prios lat ops rows each i h d pair below =
    let c : ℕ = issue_cycle rows h in
    let there : In (ready_where counts lat ops rows c) h =
    chosen_in ops prios (ready_where counts lat ops rows c) h
    (subst (λ row. In (slots row) h) (each c below) (stands_there rows h below)) in
    (ready_means_where counts lat ops rows c h there).over i d pair

module _ (counts : Counts) (lat : Latencies) (ops : List Op) (graph : Graph) (w : Progress) (rows : List Row)
    (is : IsGraphWhere counts lat ops graph) (waits : Waits graph w (length rows + 1) 0 None)
    (matches : MatchesRows (length ops) rows w.issued) where
  -- by size: who is an operation of the graph is one of the list
  within_ops : (j : ℕ) → j < graph.ops → j < length ops
  within_ops j there = subst (λ n. j < n) is.size there

  edge_over : (j : ℕ) → CanIssue graph w (length rows + 1) j → (h d : ℕ) → IsDelayPairWhere counts lat ops h j d
      → LeadsTo graph h j d → issue_cycle rows h + d ≤ length rows
  edge_over j can h d pair edge =
      let x : ℕ = edge.0 in
      let place : (graph.to x < graph.ops) × (graph.start (graph.to x) ≤ x) × (x < graph.start (graph.to x + 1)) =
      is.is_graph.to_there x edge.1 in
      let first : graph.start j ≤ x = subst (λ k. graph.start k ≤ x) edge.2 place.1 in
      let last : x < graph.start (j + 1) = subst (λ k. x < graph.start (k + 1)) edge.2 place.2 in
      let met : waits.is_unmet x ≡ false =
      count_none waits.is_unmet (graph.start j) (graph.start (j + 1) - graph.start j)
      (sym (waits.unmet j can.there) ∙ can.past_all) x first (omega arith) in
      let past = waits.past x edge.1 met in
      let order : h < j = pair.order in
      let j_within : j < length ops = within_ops j can.there in
      let time : issue_cycle rows h ≡ past.0 =
      (matches.done h past.0 (omega arith) (ap w.issued (sym edge.3) ∙ past.1)).0 in
      let enough : past.0 + graph.delay x ≤ w.earliest j =
      subst (λ k. past.0 + graph.delay x ≤ w.earliest k) edge.2 past.2 in
      let long : d ≤ graph.delay x = edge.4 in
      let soon : w.earliest j < length rows + 1 = can.soon in
      omega arith

  pub ready_when : (prios : List ℕ) → IsChosenWhere counts prios lat ops rows → (j : ℕ) → CanIssue graph w (length rows + 1) j
      → In (ready_where counts lat ops rows (length rows)) j
  ready_when prios each j can =
      ready_from_where counts lat ops rows (length rows) j (record {
        within = within_ops j can.there;
        waiting = matches.waiting j (within_ops j can.there) can.waiting;
        over = kept_is_over counts lat ops (LeadsTo graph) is.ways (issue_cycle rows) (length rows) j
            (waited counts prios lat ops rows each) (edge_over j can);
      })

  pub when_ready : (j : ℕ) → In (ready_where counts lat ops rows (length rows)) j → CanIssue graph w (length rows + 1) j
  when_ready j held =
      let means : IsReadyWhere counts lat ops rows (length rows) j = ready_means_where counts lat ops rows (length rows) j held in
      let there : j < graph.ops = subst (λ n. j < n) (sym is.size) means.within in
      let over : (x : ℕ) → graph.start j ≤ x → x < graph.start (j + 1)
      → (issue_cycle rows (graph.from x) + graph.delay x ≤ length rows) × (1 ≤ graph.delay x)
      × (graph.from x < length ops) =
      (λ x first last.
      let count : x < graph.count = within_count graph is.is_graph j x there last in
      let target : graph.to x ≡ j = is.is_graph.into j x there first last in
      let earlier : graph.from x < graph.to x = is.is_graph.earlier x count in
      let within : j < length ops = means.within in (
        means.over (graph.from x) (graph.delay x)
            (subst (λ k. IsDelayPairWhere counts lat ops (graph.from x) k (graph.delay x)) target (is.sound x count)),
        (is.is_graph.delays x count).0,
        omega arith,
      )) in
      record {
        there = there;
        waiting = none_of (w.issued j) (λ t was. let time : (issue_cycle rows j ≡ t)
            × (t < length rows) = matches.done j t means.within was in let early : t < length rows = time.1 in
            let same : issue_cycle rows j ≡ t = time.0 in let late : length rows ≤ issue_cycle rows j = means.waiting in
            absurd (omega arith));
        past_all = by_lt 0 (w.unmet j)
            (λ some.
            let count : w.unmet j ≡ count_from waits.is_unmet (graph.start j) (graph.start (j + 1) - graph.start j) =
            waits.unmet j there in
            let one = count_some waits.is_unmet (graph.start j) (graph.start (j + 1) - graph.start j) (omega arith) in
            let x : ℕ = one.0 in
            let before : x < graph.start j + (graph.start (j + 1) - graph.start j) = one.2 in
            let last : x < graph.start (j + 1) = omega (arith, one.1) in
            elim (waits.stuck x (within_count graph is.is_graph j x there last) one.3) [
              | inl none ↦
                  let h : (issue_cycle rows (graph.from x) + graph.delay x ≤ length rows) × (1 ≤ graph.delay x)
                  × (graph.from x < length ops) = over x one.1 last in
                  let late : length rows ≤ issue_cycle rows (graph.from x) = matches.waiting (graph.from x) h.2 none in
                  let enough : issue_cycle rows (graph.from x) + graph.delay x ≤ length rows = h.0 in
                  let long : 1 ≤ graph.delay x = h.1 in
                  absurd (omega arith)
              | inr loose ↦ absurd loose.1
            ])
            (λ none. omega arith);
        soon = elim (waits.reached j there) [
          | inl at_once ↦ omega arith
          | inr r ↦
              let place : (graph.to r.0 < graph.ops) × (graph.start (graph.to r.0) ≤ r.0)
              × (r.0 < graph.start (graph.to r.0 + 1)) = is.is_graph.to_there r.0 r.2 in
              let h : (issue_cycle rows (graph.from r.0) + graph.delay r.0 ≤ length rows) × (1 ≤ graph.delay r.0)
              × (graph.from r.0 < length ops) =
              over r.0 (subst (λ k. graph.start k ≤ r.0) r.3 place.1) (subst (λ k. r.0 < graph.start (k + 1)) r.3 place.2) in
              let time : issue_cycle rows (graph.from r.0) ≡ r.1 = (matches.done (graph.from r.0) r.1 h.2 r.4).0 in
              let enough : issue_cycle rows (graph.from r.0) + graph.delay r.0 ≤ length rows = h.0 in
              let same : w.earliest j ≡ r.1 + graph.delay r.0 = r.5 in
              omega arith
        ];
      }
