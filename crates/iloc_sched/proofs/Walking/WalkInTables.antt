-- The same walk in the tables of the code, step by step; for `Waiting::issue`, `pass`.
use Rattle.iloc_sched.proofs.Common.{◌≡◌, ℕ, ◌+◌, ◌%◌, ◌<◌, ◌≤◌, max, ◌≢◌, List, length, get_or, set, Some, None, Option, sym, refl, ap, ◌∙◌, subst, inl, inr, arith, get_or-set_other, get_or-set_same, CanIssue, KeepsPlaces, Progress, Waits, Walks, Graph, IsGraph, IsLast, IsSized, bucket_of, earliest_list, edge_at, graph_of, issued_list, progress_of, unmet_list, Calendar, OperationState, Waiting, Edge, Edges}
use Rattle.iloc_sched.proofs.Walking.EdgeWalk.{begins, some_unmet, moves, Enters}
use Rattle.iloc_sched.proofs.Walking.TableReads.{issued_size, unmet_size, earliest_size, earliest_read}

pub number_set_same : (xs : List ℕ) (i x : ℕ) → i < length xs → get_or (set xs i x) i 0 ≡ x
number_set_same xs i x below = get_or-set_same xs i x 0 below

pub number_set_other : (xs : List ℕ) (i x k : ℕ) → k ≢ i → get_or (set xs i x) k 0 ≡ get_or xs k 0
number_set_other xs i x k apart = get_or-set_other xs i k x 0 apart

module _ (ranks : List ℕ) (e : Edges) (w v : Waiting) (x p t : ℕ) (is : IsGraph (graph_of e)) (sized : IsSized e w)
    (there : x < length e.edges.items)
    (issued : issued_list v ≡ issued_list w)
    (unmet : unmet_list v ≡ set (unmet_list w) ((graph_of e).to x) p)
    (earliest : earliest_list v ≡ set (earliest_list w) ((graph_of e).to x) t) where
  target_there : (graph_of e).to x < length e.heads.items
  target_there = (is.to_there x there).0

  unmet_at : (progress_of ranks v).unmet ((graph_of e).to x) ≡ p
  unmet_at = grind (arith, number_set_same, target_there, unmet_size)

  unmet_other : (k : ℕ) → k ≢ (graph_of e).to x → (progress_of ranks v).unmet k ≡ (progress_of ranks w).unmet k
  unmet_other k apart = ap (λ xs. get_or xs k 0) unmet ∙ number_set_other (unmet_list w) ((graph_of e).to x) p k apart

  earliest_at : (progress_of ranks v).earliest ((graph_of e).to x) ≡ t
  earliest_at = grind (arith, earliest_size, number_set_same, target_there)

  earliest_other : (k : ℕ) → k ≢ (graph_of e).to x → (progress_of ranks v).earliest k ≡ (progress_of ranks w).earliest k
  earliest_other k apart = grind (arith, number_set_other)

  -- edge x is over
  pub passed : (cycle : ℕ) → (progress_of ranks w).issued ((graph_of e).from x) ≡ Some cycle
      → Waits (graph_of e) (progress_of ranks w) (cycle + 1) ((graph_of e).from x) (Some x)
      → (progress_of ranks w).unmet ((graph_of e).to x) ≡ p + 1
      → t ≡ max ((progress_of ranks w).earliest ((graph_of e).to x)) (cycle + (graph_of e).delay x)
      → Enters (length e.heads.items) (progress_of ranks w).bucket (progress_of ranks v).bucket (t % 32) ((graph_of e).to x) (p ≡ 0)
      → Waits (graph_of e) (progress_of ranks v) (cycle + 1) ((graph_of e).from x) ((graph_of e).previous x)
  passed cycle now waits was_p is_t enters =
      subst (λ xs. Waits (graph_of e) (record (progress_of ranks v) { issued = λ j. get_or xs j None }) (cycle + 1)
      ((graph_of e).from x) ((graph_of e).previous x)) (sym issued)
      (moves (graph_of e) (progress_of ranks w) (cycle + 1) ((graph_of e).from x) x cycle p t (progress_of ranks v).unmet
      (progress_of ranks v).earliest (progress_of ranks v).bucket
      is waits there refl refl now was_p is_t unmet_at unmet_other earliest_at earliest_other enters)

  -- who has no edge left keeps its place
  pub places_kept : 0 < (progress_of ranks w).unmet ((graph_of e).to x) → KeepsPlaces (progress_of ranks w) (progress_of ranks v)
  places_kept some j done = grind (arith, earliest_other, unmet_other)

-- the target of an edge that is gone through has an edge left
pub target_waits : (ranks : List ℕ) (e : Edges) (w : Waiting) (x cycle : ℕ) → IsGraph (graph_of e) → x < length e.edges.items
    → Waits (graph_of e) (progress_of ranks w) (cycle + 1) ((graph_of e).from x) (Some x)
    → 0 < (progress_of ranks w).unmet ((graph_of e).to x)
target_waits ranks e w x cycle is there waits = grind (arith, some_unmet)

-- The same as the code has it.
module _ (ranks : List ℕ) (e : Edges) (w : Waiting) (x cycle : ℕ) (is : IsGraph (graph_of e)) (sized : IsSized e w)
    (there : x < length e.edges.items) where
  -- when the target becomes ready at the earliest
  pub earliest_after : (edge : Edge) (state : OperationState) (t : ℕ) → edge ≡ edge_at e x
      → state ≡ get_or w.states.items edge.to state → t ≡ max state.earliest (cycle + edge.delay)
      → t ≡ max ((progress_of ranks w).earliest ((graph_of e).to x)) (cycle + (graph_of e).delay x)
  earliest_after edge state t edge_is read greatest =
      let j : ℕ = (graph_of e).to x in
      let to_is : edge.to ≡ j = ap (λ (d : Edge). d.to) edge_is in
      let size : length w.states.items ≡ length e.heads.items = sized.0 in
      let inside : j < length e.heads.items = (is.to_there x there).0 in
      let early : state.earliest ≡ (progress_of ranks w).earliest j =
      earliest_read ranks w edge.to state (omega arith) read ∙ ap (progress_of ranks w).earliest to_is in
      greatest ∙ ap (λ d. max state.earliest (cycle + d)) (ap (λ (d : Edge). d.delay) edge_is)
      ∙ ap (λ u. max u (cycle + (graph_of e).delay x)) early

-- where no edge is left, nothing is known of the source of one
no_source : (graph : Graph) (w : Progress) (f i j : ℕ) → Waits graph w f i None → Waits graph w f j None
no_source graph w f i j waits = record {
  is_unmet = waits.is_unmet;
  unmet = waits.unmet;
  ahead = λ x there from up. absurd up;
  stuck = λ x there yes. elim (waits.stuck x there yes) [
    | inl none ↦ inl none
    | inr loose ↦ absurd loose.1
  ];
  past = waits.past;
  reached = waits.reached;
  complete = waits.complete;
  times = waits.times;
  waits = waits.waits;
  only = waits.only;
}

-- the last of the edges below n out of an operation that is issued is the next
pub walks_from : (graph : Graph) (w : Progress) (i c n : ℕ) (at : Option ℕ) → IsLast (λ x. graph.from x ≡ i) n at → n ≤ graph.count
    → w.issued i ≡ Some c → Waits graph w (c + 1) i at → Walks graph w c at
walks_from graph w i c n None last most issued waits = no_source graph w (c + 1) i 0 waits
walks_from graph w i c n (Some x) last most issued waits =
    let below : x < n = last.0 in (
      omega arith,
      ap w.issued last.1 ∙ issued,
      subst (λ k. Waits graph w (c + 1) k (Some x)) (sym last.1) waits,
    )

abbrev pub progress_by : List ℕ → List (Option ℕ) → List ℕ → List ℕ → Calendar → Progress
progress_by ranks issued unmet earliest calendar = record {
  issued = λ j. get_or issued j None;
  unmet = λ j. get_or unmet j 0;
  earliest = λ j. get_or earliest j 0;
  bucket = bucket_of ranks calendar;
}

-- operation i is issued at this cycle
pub started : (ranks : List ℕ) (e : Edges) (w v : Waiting) (i cycle : ℕ) → IsGraph (graph_of e) → IsSized e w
    → Waits (graph_of e) (progress_of ranks w) (cycle + 1) 0 None → CanIssue (graph_of e) (progress_of ranks w) (cycle + 1) i
    → issued_list v ≡ set (issued_list w) i (Some cycle) → unmet_list v ≡ unmet_list w
    → earliest_list v ≡ earliest_list w → v.calendar ≡ w.calendar
    → Walks (graph_of e) (progress_of ranks v) cycle ((graph_of e).head i)
started ranks e w v i cycle is sized waits can issued unmet earliest calendar =
    let size : length (issued_list w) ≡ length e.heads.items = issued_size e w sized in
    let there : i < length e.heads.items = can.there in
    let now : get_or (issued_list v) i None ≡ Some cycle =
    ap (λ xs. get_or xs i None) issued ∙ get_or-set_same (issued_list w) i (Some cycle) None (omega arith) in
    let begun : Waits (graph_of e) (progress_by ranks (issued_list v) (unmet_list w) (earliest_list w) w.calendar) (cycle + 1) i
    ((graph_of e).head i) =
    begins (graph_of e) (progress_of ranks w) (cycle + 1) i cycle (λ j. get_or (issued_list v) j None) is waits can
    (omega arith) now
    (λ k apart. ap (λ xs. get_or xs k None) issued ∙ get_or-set_other (issued_list w) i k (Some cycle) None apart) in
    walks_from (graph_of e) (progress_of ranks v) i cycle (length e.edges.items) ((graph_of e).head i) (is.heads i there)
    (omega arith) now
    (subst (λ xs. Waits (graph_of e) (progress_by ranks (issued_list v) xs (earliest_list v) v.calendar) (cycle + 1) i
    ((graph_of e).head i)) (sym unmet)
    (grind arith))

-- the same places, since the same tables
pub places_as_before : (ranks : List ℕ) (w v : Waiting) → unmet_list v ≡ unmet_list w → earliest_list v ≡ earliest_list w
    → KeepsPlaces (progress_of ranks w) (progress_of ranks v)
places_as_before ranks w v unmet earliest = grind arith
