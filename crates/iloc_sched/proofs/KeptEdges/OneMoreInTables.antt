-- What is known of the edges between some operations holds once there is one operation more; for `Tables::push` and
-- `open_renamed`.
use Rattle.iloc_sched.proofs.Common.{◌≡◌, ℕ, ◌+◌, ◌<◌, true, false, List, [], ◌∷◌, ◌++◌, ◌⊎◌, map, length, get_or, take, IsTrue, Some, None, Contains, Option, sym, refl, ap, ◌∙◌, subst, inl, inr, arith, length-append, length-take, get_or-take, cases_lt, get_or_past, map-append, take_more, Vec, defined, used, Op, Nop, Reg, op_at, is_load, is_output, is_store, kind, latency, Kind, Latencies, IsDelayPair, delays, memory_delays, uses_result, IsRenamed, is_nop, Book, IsNear, takes_over, IsLasts, IsNearPairBy, IsPartialGraph, Graph, graph_of, Edge, Edges, Lasts}
use Rattle.std.proofs.Math.ListN.{get_or-append}
use Rattle.std.proofs.Math.Seq.{get_or-append_seam}
use Rattle.iloc_sched.proofs.Basics.LastOnes.{last_same}
use Rattle.iloc_sched.proofs.KeptEdges.AddedEdges.{tables_graph}
use Rattle.iloc_sched.proofs.Renamed.OneMoreOperation.{op_at_kept, op_at_last}

module _ (ops : List Op) (op : Op) where
  on : (P : Op → Type 0) (k : ℕ) → k < length ops → P (op_at ops k) → P (op_at (ops ++ op ∷ []) k)
  on P k below held = subst P (sym (op_at_kept ops op k below)) held

  back : (P : Op → Type 0) (k : ℕ) → k < length ops → P (op_at (ops ++ op ∷ []) k) → P (op_at ops k)
  back P k below held = subst P (op_at_kept ops op k below) held

  pub size_more : length (ops ++ op ∷ []) ≡ length ops + 1
  size_more = length-append ops (op ∷ [])

  near_on : (lat : Latencies) (i j d : ℕ) → i < j → j < length ops → IsNear lat ops i j d
      → IsNear lat (ops ++ op ∷ []) i j d
  near_on lat i j d order within near = elim near [
    | inl through ↦ inl (
      on (λ o. IsTrue (uses_result o (op_at (ops ++ op ∷ []) j))) i (omega arith)
          (on (λ o. IsTrue (uses_result (op_at ops i) o)) j within through.0),
      on (λ o. d ≡ latency lat o) i (omega arith) through.1,
    )
    | inr memory ↦ inr (
      on (λ o. Contains (memory_delays lat o (op_at (ops ++ op ∷ []) j)) d) i (omega arith)
          (on (λ o. Contains (memory_delays lat (op_at ops i) o) d) j within memory.0),
      λ k after before. on (λ o. takes_over o (op_at (ops ++ op ∷ []) k) ≡ false) i (omega arith)
          (on (λ o. takes_over (op_at ops i) o ≡ false) k (omega arith) (memory.1 k after before)),
    )
  ]

  pair_on : (lat : Latencies) (i j d : ℕ) → IsNearPairBy Book lat ops i j d → IsNearPairBy Book lat (ops ++ op ∷ []) i j d
  pair_on lat i j d pair =
      let order : i < j = pair.order in
      let within : j < length ops = pair.within in
      record {
        order = pair.order;
        within = omega (arith, size_more);
        delay = on (λ o. Contains (delays lat o (op_at (ops ++ op ∷ []) j)) d) i (omega arith)
            (on (λ o. Contains (delays lat (op_at ops i) o) d) j within pair.delay);
        near = near_on lat i j d pair.order pair.within pair.near;
      }

  pair_back : (lat : Latencies) (i j d : ℕ) → j < length ops → IsDelayPair lat (ops ++ op ∷ []) i j d
      → IsDelayPair lat ops i j d
  pair_back lat i j d within pair =
      let order : i < j = pair.order in
      record {
        order = pair.order;
        within = within;
        delay = back (λ o. Contains (delays lat o (op_at ops j)) d) i (omega arith)
            (back (λ o. Contains (delays lat (op_at (ops ++ op ∷ []) i) o) d) j within pair.delay);
      }

  near_back : (lat : Latencies) (i j d : ℕ) → i < j → j < length ops → IsNear lat (ops ++ op ∷ []) i j d
      → IsNear lat ops i j d
  near_back lat i j d order within near = elim near [
    | inl through ↦ inl (
      back (λ o. IsTrue (uses_result o (op_at ops j))) i (omega arith)
          (back (λ o. IsTrue (uses_result (op_at (ops ++ op ∷ []) i) o)) j within through.0),
      back (λ o. d ≡ latency lat o) i (omega arith) through.1,
    )
    | inr memory ↦ inr (
      back (λ o. Contains (memory_delays lat o (op_at ops j)) d) i (omega arith)
          (back (λ o. Contains (memory_delays lat (op_at (ops ++ op ∷ []) i) o) d) j within memory.0),
      λ k after before. back (λ o. takes_over o (op_at ops k) ≡ false) i (omega arith)
          (back (λ o. takes_over (op_at (ops ++ op ∷ []) i) o ≡ false) k (omega arith) (memory.1 k after before)),
    )
  ]

  -- the graph with one operation more, which has no edge
  pub partial_next : (lat : Latencies) (graph : Graph) (n : ℕ) (head' : ℕ → Option ℕ)
      → IsPartialGraph Book lat ops graph (length ops) → n ≡ graph.ops + 1
      → ((i : ℕ) → i < graph.ops → head' i ≡ graph.head i) → head' graph.ops ≡ None
      → IsPartialGraph Book lat (ops ++ op ∷ []) (record graph { ops = n; head = head' }) (length ops)
  partial_next lat graph n head' is size kept none = record {
    size = size ∙ ap (λ m. m + 1) is.size ∙ sym size_more;
    rises = is.rises;
    top = is.top;
    into = is.into;
    into_last = is.into_last;
    to_there = is.to_there;
    sound = λ x there. pair_on lat (graph.from x) (graph.to x) (graph.delay x) (is.sound x there);
    heads = grind arith;
    previous_edges = is.previous_edges;
    all = λ i b d below pair near. is.all i b d below (pair_back lat i b d below pair)
        (near_back lat i b d pair.order below near);
  }

  -- the same stands last
  pub lasts_next : (lasts : Lasts) → IsLasts ops lasts (length ops) → IsLasts (ops ++ op ∷ []) lasts (length ops)
  lasts_next lasts is = record {
    definers = λ r. last_same (λ i. defined (op_at ops i) ≡ Some r) (λ i. defined (op_at (ops ++ op ∷ []) i) ≡ Some r)
        (length ops) _ (on (λ o. defined o ≡ Some r)) (back (λ o. defined o ≡ Some r)) (is.definers r);
    store = last_same (λ i. is_store (kind (op_at ops i)) ≡ true) (λ i. is_store (kind (op_at (ops ++ op ∷ []) i)) ≡ true)
        (length ops) _ (on (λ o. is_store (kind o) ≡ true)) (back (λ o. is_store (kind o) ≡ true)) is.store;
    output = last_same (λ i. is_output (kind (op_at ops i)) ≡ true)
        (λ i. is_output (kind (op_at (ops ++ op ∷ []) i)) ≡ true)
        (length ops) _ (on (λ o. is_output (kind o) ≡ true)) (back (λ o. is_output (kind o) ≡ true)) is.output;
    loads = λ i held. let h = is.loads i held in (
      h.0,
      on (λ o. is_load (kind o) ≡ true) i h.0 h.1,
      λ k after before. on (λ o. is_store (kind o) ≡ false) k before (h.2 k after before),
    );
    all_loads = λ i below load none. is.all_loads i below (back (λ o. is_load (kind o) ≡ true) i below load)
        (λ k after before. back (λ o. is_store (kind o) ≡ false) k before (none k after before));
  }

  pub kinds_more : (kinds kinds' : List Kind) (ops' : List Op) → ops' ≡ ops ++ op ∷ []
      → kinds' ≡ kinds ++ kind op ∷ [] → kinds ≡ map kind ops → kinds' ≡ map kind ops'
  kinds_more kinds kinds' ops' ops_is kinds_is kinds_were = grind (arith, map-append)

  pub latencies_more : (lat : Latencies) (own own' : List ℕ) (ops' : List Op) → ops' ≡ ops ++ op ∷ []
      → own' ≡ own ++ latency lat op ∷ [] → own ≡ map (latency lat) ops → own' ≡ map (latency lat) ops'
  latencies_more lat own own' ops' ops_is own_is own_was = grind (arith, map-append)

  pub op_at_next : (j : ℕ) (ops' : List Op) → ops' ≡ ops ++ op ∷ [] → j ≡ length ops → op_at ops' j ≡ op
  op_at_next j ops' ops_is at = ap (λ xs. op_at xs j) ops_is ∙ ap (op_at (ops ++ op ∷ [])) at ∙ op_at_last ops op

  pub lasts_grown : (lasts : Lasts) (j : ℕ) (ops' : List Op) → ops' ≡ ops ++ op ∷ [] → j ≡ length ops
      → IsLasts ops lasts (length ops) → IsLasts ops' lasts j
  lasts_grown lasts j ops' ops_is at known = grind (arith, lasts_next lasts known)

  -- the same of the tables
  pub partial_grown : (lat : Latencies) (e e' : Edges) (j : ℕ) (ops' : List Op) → ops' ≡ ops ++ op ∷ [] → j ≡ length ops
      → e'.edges ≡ e.edges → e'.starts ≡ e.starts → e'.heads.items ≡ e.heads.items ++ None ∷ []
      → IsPartialGraph Book lat ops (graph_of e) (length ops) → IsPartialGraph Book lat ops' (graph_of e') j
  partial_grown lat e e' j ops' ops_is at edges starts heads is =
      let size : length e'.heads.items ≡ length e.heads.items + 1 =
      ap length heads ∙ length-append e.heads.items (None ∷ []) in
      let next : IsPartialGraph Book lat (ops ++ op ∷ []) (tables_graph e.edges.items e.starts.items e'.heads.items) (length ops) =
      partial_next lat (graph_of e) (length e'.heads.items) (λ i. get_or e'.heads.items i None) is size
      (λ i below. ap (λ xs. get_or xs i None) heads ∙ get_or-append e.heads.items (None ∷ []) None i below)
      (ap (λ xs. get_or xs (length e.heads.items) None) heads ∙ get_or-append_seam e.heads.items None [] None) in
      subst (λ xs. IsPartialGraph Book lat xs (graph_of e') j) (sym ops_is)
      (subst (λ n. IsPartialGraph Book lat (ops ++ op ∷ []) (graph_of e') n) (sym at)
      (subst (λ (v : Vec Edge). IsPartialGraph Book lat (ops ++ op ∷ []) (tables_graph v.items e'.starts.items e'.heads.items) (length ops))
      (sym edges)
      (grind arith)))

-- of the first operations of renamed ones
module _ (ops : List Op) (k : ℕ) where
  op_before : (i : ℕ) → (op_at (take k ops) i ≡ op_at ops i) ⊎ (op_at (take k ops) i ≡ Nop)
  op_before i = elim (cases_lt i k) [
    | inl below ↦ inl (get_or-take k ops i Nop below)
    | inr past ↦ inr (get_or_past (take k ops) i Nop (grind (arith, length-take)))
  ]

  held : (P : Op → Type 0) → (P Nop → ⊥) → (i : ℕ) → P (op_at (take k ops) i) → P (op_at ops i)
  held P none i at = elim (op_before i) [
    | inl same ↦ subst P same at
    | inr past ↦ absurd (none (subst P past at))
  ]

  defines_none : (r : Reg) → defined Nop ≡ Some r → ⊥
  defines_none r is = grind arith

  uses_none : (r : Reg) → Contains (used Nop) r → ⊥
  uses_none r is = grind arith

  first_renamed : IsRenamed ops → IsRenamed (take k ops)
  first_renamed is = record {
    no_nop = λ i below. let size = length-take k ops in
        subst (λ o. is_nop o ≡ false) (sym (get_or-take k ops i Nop (grind arith))) (is.no_nop i (grind arith));
    once = λ i j r here there. is.once i j r (held (λ o. defined o ≡ Some r) (defines_none r) i here)
        (held (λ o. defined o ≡ Some r) (defines_none r) j there);
    defined_before = λ i j r uses there. is.defined_before i j r (held (λ o. Contains (used o) r) (uses_none r) i uses)
        (held (λ o. defined o ≡ Some r) (defines_none r) j there);
  }

-- one operation more of renamed ones
pub more_taken : (ops now more : List Op) (i : ℕ) (d : Op) → now ≡ take i ops → i < length ops → more ≡ now ++ get_or ops i d ∷ []
    → more ≡ take (i + 1) ops
more_taken ops now more i d is below pushed =
    pushed ∙ ap (λ xs. xs ++ get_or ops i d ∷ []) is ∙ sym (take_more ops i d below)

pub more_renamed : (ops now : List Op) (i : ℕ) (d : Op) → IsRenamed ops → now ≡ take i ops → i < length ops
    → IsRenamed (now ++ get_or ops i d ∷ [])
more_renamed ops now i d renamed is below =
    subst IsRenamed (sym (more_taken ops now (now ++ get_or ops i d ∷ []) i d is below refl)) (first_renamed ops (i + 1) renamed)
