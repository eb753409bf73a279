-- Numbers that edges raise become the longest chains; for priorities and starts.
use Rattle.iloc_sched.proofs.Common.{◌≡◌, ℕ, ◌+◌, ◌<◌, ◌≤◌, max, ◌≢◌, List, length, get_or, set, arith, length-set, get_or-set_other, get_or-set_same, Op, Latencies, Counts, IsDelayPairWhere, IsBefore, IsFrom, IsRaised, Graph, IsGraphWhere, LeadsTo}
use Rattle.iloc_rules.specs.Steps.Chains.{IsChain}
use Rattle.iloc_sched.proofs.KeptEdges.FarPairs.{all_kept}

-- the number of `at` is put to v, which is no less
module _ (found : List ℕ) (at v : ℕ) (there : at < length found) (up : get_or found at 0 ≤ v) where
  pub here : get_or (set found at v) at 0 ≡ v
  here = get_or-set_same found at v 0 there

  pub away : (k : ℕ) → k ≢ at → get_or (set found at v) k 0 ≡ get_or found k 0
  away k apart = get_or-set_other found at k v 0 apart

  pub grown : (k : ℕ) → get_or found k 0 ≤ get_or (set found at v) k 0
  grown k = grind (arith, away, here)

module _ (size : ℕ) (base chain value place other delay : ℕ → ℕ) (Pair : ℕ → ℕ → ℕ → Type 0)
    (is : IsChain size Pair base chain value) (Done : ℕ → Type 0) (found : List ℕ) where
  pub at_most : (j i : ℕ) → IsRaised size base chain value place other delay Done found j → i < size
      → get_or found i 0 ≤ value i
  at_most j i raised below = grind arith

  -- edge x is done too
  pub raise : (More : ℕ → Type 0) (j x : ℕ) → IsRaised size base chain value place other delay Done found j
      → Pair (place x) (other x) (delay x) → place x < j → place x < size → other x < size
      → ((y : ℕ) → More y → other y ≢ place x) → ((y : ℕ) → More y → y ≢ x → Done y)
      → IsRaised size base chain value place other delay More
      (set found (place x) (max (get_or found (place x) 0) (delay x + get_or found (other x) 0))) j
  raise More j x raised pair early inside end apart rest = grind (arith, at_most, away, grown, here, length-set)

  -- the number of operation j is put to its value, which is no less
  pub settle : (j v : ℕ) → IsRaised size base chain value place other delay Done found (j + 1) → j < size
      → v ≡ value j → get_or found j 0 ≤ v → ((y : ℕ) → Done y → other y ≢ j)
      → IsRaised size base chain value place other delay Done (set found j v) j
  settle j v raised below v_is up apart = grind (arith, away, grown, here, length-set)

module _ (counts : Counts) (lat : Latencies) (ops : List Op) (graph : Graph) (is : IsGraphWhere counts lat ops graph) where
  pub ends_within : (x : ℕ) → x < graph.count → (graph.from x < graph.to x) × (graph.to x < length ops)
  ends_within x below = grind arith

  -- the edges into an operation precede those into later ones
  pub to_rises : (y x : ℕ) → y ≤ x → y < graph.count → x < graph.count → graph.to y ≤ graph.to x
  to_rises y x low y_below x_below = grind arith

  module _ (base chain value : ℕ → ℕ) (found : List ℕ) (j x : ℕ) (below : x < graph.count) where
    pub raise_from : IsChain (length ops) (IsDelayPairWhere counts lat ops) base chain value
        → IsRaised (length ops) base chain value graph.from graph.to graph.delay (IsFrom graph (x + 1)) found j
        → graph.from x < j → IsRaised (length ops) base chain value graph.from graph.to graph.delay (IsFrom graph x)
        (set found (graph.from x) (max (get_or found (graph.from x) 0) (graph.delay x + get_or found (graph.to x) 0))) j
    raise_from chains raised early =
        let ends = ends_within x below in
        raise (length ops) base chain value graph.from graph.to graph.delay (IsDelayPairWhere counts lat ops) chains
        (IsFrom graph (x + 1)) found (IsFrom graph x) j x raised (is.sound x below) early (omega arith) ends.1
        (λ y more same. let up = to_rises x y more.0 below more.1 in absurd (omega arith))
        (λ y more away. (omega arith, more.1))

    pub raise_to : IsChain (length ops) (λ k i d. IsDelayPairWhere counts lat ops i k d) base chain value
        → IsRaised (length ops) base chain value graph.to graph.from graph.delay (IsBefore graph x) found j
        → graph.to x < j → IsRaised (length ops) base chain value graph.to graph.from graph.delay (IsBefore graph (x + 1))
        (set found (graph.to x) (max (get_or found (graph.to x) 0) (graph.delay x + get_or found (graph.from x) 0))) j
    raise_to chains raised early =
        let ends = ends_within x below in
        raise (length ops) base chain value graph.to graph.from graph.delay (λ k i d. IsDelayPairWhere counts lat ops i k d) chains
        (IsBefore graph x) found (IsBefore graph (x + 1)) j x raised (is.sound x below) early ends.1 (omega arith)
        (grind (arith, ends_within, to_rises))
        (λ y more away. let low = more.0 in (omega arith, more.1))

  -- where all edges out of the operations from `low` on are kept, so are all delay pairs out of these
  module _ (a b : ℕ → ℕ) (low : ℕ) (over : (y : ℕ) → y < graph.count → low ≤ graph.from y
      → graph.delay y + a (graph.from y) + b (graph.to y) ≤ a (graph.to y) + b (graph.from y)) where
    pub over_pairs : (i j d : ℕ) → low ≤ i → IsDelayPairWhere counts lat ops i j d → d + a i + b j ≤ a j + b i
    over_pairs = all_kept counts lat ops (LeadsTo graph) is.ways a b low (λ i j d high pair edge. grind arith)
