-- What is read of the tables is what their views say; for `Waiting::pass`.
use Rattle.iloc_sched.proofs.Common.{◌≡◌, ℕ, ◌<◌, List, length, get_or, ap, ◌∙◌, arith, get_or-map, length-map, IsGraph, IsSized, earliest_list, edge_at, graph_of, issued_list, progress_of, unmet_list, OperationState, Waiting, Edge, Edges}

module _ (e : Edges) (w : Waiting) (sized : IsSized e w) where
  pub issued_size : length (issued_list w) ≡ length e.heads.items
  issued_size = sized.1

  pub unmet_size : length (unmet_list w) ≡ length e.heads.items
  unmet_size = length-map w.states.items (λ (s : OperationState). s.unmet) ∙ sized.0

  pub earliest_size : length (earliest_list w) ≡ length e.heads.items
  earliest_size = length-map w.states.items (λ (s : OperationState). s.earliest) ∙ sized.0

-- what is read of the state of operation j
module _ (ranks : List ℕ) (w : Waiting) (j : ℕ) (state : OperationState) (below : j < length w.states.items)
    (is : state ≡ get_or w.states.items j state) where
  pub unmet_read : state.unmet ≡ (progress_of ranks w).unmet j
  unmet_read = grind (arith, get_or-map)

  pub earliest_read : state.earliest ≡ (progress_of ranks w).earliest j
  earliest_read = grind (arith, get_or-map)

-- what the target of an edge waits for
pub target_read : (ranks : List ℕ) (e : Edges) (w : Waiting) (x : ℕ) (edge : Edge) (state : OperationState) → IsGraph (graph_of e) → IsSized e w
    → x < length e.edges.items → edge ≡ edge_at e x → state ≡ get_or w.states.items edge.to state
    → state.unmet ≡ (progress_of ranks w).unmet ((graph_of e).to x)
target_read ranks e w x edge state is sized below edge_is read =
    let to_is : edge.to ≡ (graph_of e).to x = ap (λ (d : Edge). d.to) edge_is in
    let size : length w.states.items ≡ length e.heads.items = sized.0 in
    unmet_read ranks w edge.to state (omega arith) read ∙ ap (progress_of ranks w).unmet to_is
