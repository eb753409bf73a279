-- One step along the edges out of an issued operation, where an edge may be left or none; for `Waiting::pass`.
use Rattle.iloc_sched.proofs.Common.{◌≡◌, ℕ, ◌+◌, ◌-◌, ◌%◌, ◌<◌, ◌≤◌, max, Bool, ◌&&◌, ◌||◌, List, length, get_or, set, is_some, if◌then◌else◌, nat_eq, Some, None, Option, unwrap_or, sym, refl, ap, ◌∙◌, subst, arith, eq-eqb, eqb-true, set-get_or, from_bool, Puts, has, KeepsPlaces, Progress, Waits, Walks, IsPlan, rank_of, Graph, IsLast, IsSized, bucket_of, earliest_list, edge_at, graph_of, issued_list, progress_of, unmet_list, Calendar, Plan, OperationState, Waiting, Edge}
use Rattle.iloc_sched.proofs.Ranks.Calendars.{puts_enters}
use Rattle.iloc_sched.proofs.Ranks.Cells.{by_both}
use Rattle.iloc_sched.proofs.Walking.EdgeWalk.{Enters}
use Rattle.iloc_sched.proofs.Walking.TableReads.{unmet_read, earliest_read, target_read}
use Rattle.iloc_sched.proofs.Walking.WalkInTables.{target_waits, earliest_after, passed, places_kept, places_as_before, walks_from, progress_by}

-- there is an edge to read
pub edge_there : (graph : Graph) (w : Progress) (c : ℕ) (at : Option ℕ) → 0 < graph.count → Walks graph w c at
    → unwrap_or at 0 < graph.count
edge_there graph w c None some walks = some
edge_there graph w c (Some x) some walks = walks.0

-- nothing is below the first number
none_below : (P : ℕ → Type 0) (last : Option ℕ) → IsLast P 0 last → last ≡ None
none_below P None is = refl
none_below P (Some m) is = let below : m < 0 = is.0 in absurd (omega arith)

-- a rank is put where it is
puts_nothing : (c c' : Calendar) (s k : ℕ) → Puts c c' s k (has c s k) → (t r : ℕ) → t < 37 → has c' t r ≡ has c t r
puts_nothing c c' s k puts t r low = by_both t s r k
    (λ set_same rank_same. ap (has c' t) rank_same ∙ ap (λ u. has c' u k) set_same ∙ puts.here ∙ ap (λ u. has c u k) (sym set_same)
    ∙ ap (has c t) (sym rank_same))
    (λ other. puts.others t r low other)

-- what waits is the same by the same buckets
same_waits : (graph : Graph) (w : Progress) (bucket' : ℕ → ℕ → Bool) (f i : ℕ) (at : Option ℕ) → Waits graph w f i at
    → ((b j : ℕ) → b < 32 → bucket' b j ≡ w.bucket b j) → Waits graph (record w { bucket = bucket' }) f i at
same_waits graph w bucket' f i at waits same = record {
  is_unmet = waits.is_unmet;
  unmet = waits.unmet;
  ahead = waits.ahead;
  stuck = waits.stuck;
  past = waits.past;
  reached = waits.reached;
  complete = waits.complete;
  times = waits.times;
  waits = λ j there none all late. same (w.earliest j % 32) j (omega arith) ∙ waits.waits j there none all late;
  only = λ b j low there held. waits.only b j low there (sym (same b j low) ∙ held);
}

abbrev graph_in : Plan → Graph
graph_in p = graph_of p.tables.now.edges

abbrev so_far : Plan → Waiting → Progress
so_far p w = progress_of p.ranks.now w

module _ (p : Plan) (w : Waiting) (cycle : ℕ) (edge : Edge) (state : OperationState) (plan : IsPlan p)
    (sized : IsSized p.tables.now.edges w) (read : state ≡ get_or w.states.items edge.to state) where
  -- the target of the edge at hand has an edge left
  pub some_left : (at : Option ℕ) → Walks (graph_in p) (so_far p w) cycle at
      → edge ≡ edge_at p.tables.now.edges (unwrap_or at 0) → from_bool (is_some at) ≤ state.unmet
  some_left None walks is = omega arith
  some_left (Some x) walks is =
      let unmet : state.unmet ≡ (so_far p w).unmet ((graph_in p).to x) =
      target_read p.ranks.now p.tables.now.edges w x edge state plan.graph.is_graph sized walks.0 is read in
      let some : 0 < (so_far p w).unmet ((graph_in p).to x) =
      target_waits p.ranks.now p.tables.now.edges w x cycle plan.graph.is_graph walks.0 walks.2 in
      omega arith

  module _ (v : Waiting) (q t : ℕ) (some : 0 < length p.tables.now.edges.edges.items) (issued : issued_list v ≡ issued_list w)
      (unmet : unmet_list v ≡ set (unmet_list w) edge.to q) (earliest : earliest_list v ≡ set (earliest_list w) edge.to t) where
    target_there : (x : ℕ) → x < length p.tables.now.edges.edges.items → edge ≡ edge_at p.tables.now.edges x
        → edge.to < length w.states.items
    target_there x there is =
        let size : length w.states.items ≡ length p.tables.now.edges.heads.items = sized.0 in
        let to_is : edge.to ≡ (graph_in p).to x = ap (λ (d : Edge). d.to) is in
        let below : (graph_in p).to x < length p.tables.now.edges.heads.items =
        (plan.graph.is_graph.to_there x there).0 in
        omega arith

    same_unmet : edge ≡ edge_at p.tables.now.edges 0 → q ≡ state.unmet - 0 → unmet_list v ≡ unmet_list w
    same_unmet is less =
        let known : state.unmet ≡ get_or (unmet_list w) edge.to 0 =
        unmet_read p.ranks.now w edge.to state (target_there 0 some is) read in
        let same : q ≡ get_or (unmet_list w) edge.to 0 = omega arith in
        unmet ∙ ap (set (unmet_list w) edge.to) same ∙ set-get_or (unmet_list w) edge.to 0

    same_earliest : edge ≡ edge_at p.tables.now.edges 0 → t ≡ max state.earliest 0 → earliest_list v ≡ earliest_list w
    same_earliest is greatest =
        let known : state.earliest ≡ get_or (earliest_list w) edge.to 0 =
        earliest_read p.ranks.now w edge.to state (target_there 0 some is) read in
        let same : t ≡ get_or (earliest_list w) edge.to 0 = omega arith in
        earliest ∙ ap (set (earliest_list w) edge.to) same ∙ set-get_or (earliest_list w) edge.to 0

    -- who has no edge left keeps its place
    pub places_after : (at : Option ℕ) → Walks (graph_in p) (so_far p w) cycle at
        → edge ≡ edge_at p.tables.now.edges (unwrap_or at 0) → q ≡ state.unmet - from_bool (is_some at)
        → t ≡ max state.earliest (if is_some at then cycle + edge.delay else 0)
        → KeepsPlaces (so_far p w) (so_far p v)
    places_after None walks is less greatest =
        places_as_before p.ranks.now w v (same_unmet is less) (same_earliest is greatest)
    places_after (Some x) walks is less greatest =
        let to_is : edge.to ≡ (graph_in p).to x = ap (λ (d : Edge). d.to) is in
        places_kept p.ranks.now p.tables.now.edges w v x q t plan.graph.is_graph sized walks.0 issued
        (subst (λ j. unmet_list v ≡ set (unmet_list w) j q) to_is unmet)
        (subst (λ j. earliest_list v ≡ set (earliest_list w) j t) to_is earliest)
        (target_waits p.ranks.now p.tables.now.edges w x cycle plan.graph.is_graph walks.0 walks.2)

    -- the edge at hand is over, and the one before it is the next
    pub walks_on : (at : Option ℕ) → Walks (graph_in p) (so_far p w) cycle at
        → edge ≡ edge_at p.tables.now.edges (unwrap_or at 0) → q ≡ state.unmet - from_bool (is_some at)
        → t ≡ max state.earliest (if is_some at then cycle + edge.delay else 0)
        → Puts w.calendar v.calendar (t % 32) (rank_of p edge.to)
        ((is_some at && nat_eq q 0) || has w.calendar (t % 32) (rank_of p edge.to))
        → Walks (graph_in p) (so_far p v) cycle edge.previous
    walks_on None walks is less greatest puts =
        let none : edge.previous ≡ None =
        ap (λ (d : Edge). d.previous) is ∙ none_below _ _ (plan.graph.is_graph.previous_edges 0 some) in
        let by_lists : List (Option ℕ) → List ℕ → List ℕ → Type 0 =
        λ xs ys zs. Waits (graph_in p) (progress_by p.ranks.now xs ys zs v.calendar) (cycle + 1) 0 None in
        subst (Walks (graph_in p) (so_far p v) cycle) (sym none)
        (subst (λ xs. by_lists xs (unmet_list v) (earliest_list v)) (sym issued)
        (subst (λ ys. by_lists (issued_list w) ys (earliest_list v)) (sym (same_unmet is less))
        (subst (λ zs. by_lists (issued_list w) (unmet_list w) zs) (sym (same_earliest is greatest))
        (same_waits (graph_in p) (so_far p w) (bucket_of p.ranks.now v.calendar) (cycle + 1) 0 None walks
        (λ b j low. puts_nothing w.calendar v.calendar (t % 32) (rank_of p edge.to) puts b (rank_of p j) (omega arith))))))
    walks_on (Some x) walks is less greatest puts =
        let there : x < length p.tables.now.edges.edges.items = walks.0 in
        let to_is : edge.to ≡ (graph_in p).to x = ap (λ (d : Edge). d.to) is in
        let was : state.unmet ≡ (so_far p w).unmet ((graph_in p).to x) =
        target_read p.ranks.now p.tables.now.edges w x edge state plan.graph.is_graph sized there is read in
        let left : 0 < (so_far p w).unmet ((graph_in p).to x) =
        target_waits p.ranks.now p.tables.now.edges w x cycle plan.graph.is_graph there walks.2 in
        let below : (graph_in p).to x < length p.tables.now.edges.heads.items =
        (plan.graph.is_graph.to_there x there).0 in
        let enters : Enters (length p.tables.now.edges.heads.items) (bucket_of p.ranks.now w.calendar)
        (bucket_of p.ranks.now v.calendar) (t % 32) ((graph_in p).to x) (q ≡ 0) =
        subst (λ n. Enters n (bucket_of p.ranks.now w.calendar) (bucket_of p.ranks.now v.calendar) (t % 32)
        ((graph_in p).to x) (q ≡ 0)) (sym plan.graph.size)
        (puts_enters p plan w.calendar v.calendar (t % 32) ((graph_in p).to x) (nat_eq q 0) (q ≡ 0) (omega arith)
        (subst (λ n. (graph_in p).to x < n) plan.graph.size below)
        (subst (λ j. Puts w.calendar v.calendar (t % 32) (rank_of p j) (nat_eq q 0 || has w.calendar (t % 32) (rank_of p j))) to_is puts)
        (λ is. eqb-true q 0 is) (λ is. eq-eqb q 0 is)) in
        let waits : Waits (graph_in p) (so_far p v) (cycle + 1) ((graph_in p).from x)
        ((graph_in p).previous x) =
        passed p.ranks.now p.tables.now.edges w v x q t plan.graph.is_graph sized there issued
        (subst (λ j. unmet_list v ≡ set (unmet_list w) j q) to_is unmet)
        (subst (λ j. earliest_list v ≡ set (earliest_list w) j t) to_is earliest)
        cycle walks.1 walks.2 (omega arith)
        (earliest_after p.ranks.now p.tables.now.edges w x cycle plan.graph.is_graph sized there edge state t is read greatest)
        enters in
        subst (Walks (graph_in p) (so_far p v) cycle) (sym (ap (λ (d : Edge). d.previous) is))
        (walks_from (graph_in p) (so_far p v) ((graph_in p).from x) cycle x
        ((graph_in p).previous x) (plan.graph.is_graph.previous_edges x there) (omega arith)
        (ap (λ xs. get_or xs ((graph_in p).from x) None) issued ∙ walks.1) waits)
