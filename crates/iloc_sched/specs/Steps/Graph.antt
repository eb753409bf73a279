-- The kept edges between operations.
use Rattle.std.specs.Prelude.{ℕ, ◌+◌, ◌≡◌, ◌<◌, ◌≤◌, ◌⊎◌, List, length, Option, Some, None}
use Rattle.iloc_ops.specs.declared.op.Op.{Op}
use Rattle.iloc_timed.specs.declared.latencies.Latencies.{Latencies}
use Rattle.iloc_rules.specs.Delays.{Counts, IsDelayPairWhere}
use Rattle.iloc_rules.specs.Rule.{counts_by}
use Rattle.iloc_rules.specs.declared.memory_rule.MemoryRule.{MemoryRule}
use Rattle.iloc_rules.specs.Steps.Ways.{GoesBy}
use Rattle.iloc_rules.specs.declared.delay_pairs.TheConstants.{LONGEST_DELAY}
use Rattle.iloc_sched.specs.Graph.Near.{IsNearBy}

-- edges by number: those into operation j are the ones from `start j` up to `start (j + 1)`; of those out of
-- operation i the last is `head i`, and the one before edge x is `previous x`
pub record Graph : Type 0 where
  pub ops : ℕ
  pub count : ℕ
  pub from : ℕ → ℕ
  pub to : ℕ → ℕ
  pub delay : ℕ → ℕ
  pub start : ℕ → ℕ
  pub head : ℕ → Option ℕ
  pub previous : ℕ → Option ℕ

-- the last number below n of which P holds
abbrev pub IsLast : (ℕ → Type 0) → ℕ → Option ℕ → Type 0
IsLast P n None = (k : ℕ) → k < n → P k → ⊥
IsLast P n (Some m) = (m < n) × P m × ((k : ℕ) → m < k → k < n → P k → ⊥)

pub record IsGraph (graph : Graph) : Type 0 where
  pub rises : (i j : ℕ) → i ≤ j → j ≤ graph.ops → graph.start i ≤ graph.start j
  pub last : graph.start graph.ops ≡ graph.count
  pub into : (j x : ℕ) → j < graph.ops → graph.start j ≤ x → x < graph.start (j + 1) → graph.to x ≡ j
  pub to_there : (x : ℕ) → x < graph.count → (graph.to x < graph.ops) × (graph.start (graph.to x) ≤ x) × (x < graph.start (graph.to x + 1))
  pub earlier : (x : ℕ) → x < graph.count → graph.from x < graph.to x
  pub delays : (x : ℕ) → x < graph.count → (1 ≤ graph.delay x) × (graph.delay x ≤ LONGEST_DELAY)
  pub heads : (i : ℕ) → i < graph.ops → IsLast (λ x. graph.from x ≡ i) graph.count (graph.head i)
  pub previous_edges : (x : ℕ) → x < graph.count → IsLast (λ y. graph.from y ≡ graph.from x) x (graph.previous x)

-- an edge from operation i to operation j with at least the delay d
abbrev pub LeadsTo : Graph → ℕ → ℕ → ℕ → Type 0
LeadsTo graph i j d = (x : ℕ) × (x < graph.count) × (graph.to x ≡ j) × (graph.from x ≡ i) × (d ≤ graph.delay x)

-- each edge of `graph` is a delay pair of `ops` by `counts`; each delay pair has its edge, or goes by way of an
-- operation between
pub record IsGraphWhere (counts : Counts) (lat : Latencies) (ops : List Op) (graph : Graph) : Type 0 where
  pub is_graph : IsGraph graph
  pub size : graph.ops ≡ length ops
  pub sound : (x : ℕ) → x < graph.count → IsDelayPairWhere counts lat ops (graph.from x) (graph.to x) (graph.delay x)
  pub ways : (i j d : ℕ) → IsDelayPairWhere counts lat ops i j d → LeadsTo graph i j d ⊎ GoesBy counts lat ops i j d

-- by the rule, each edge is a delay pair, and near, and each near pair has its edge
pub record IsGraphOf (rule : MemoryRule) (lat : Latencies) (ops : List Op) (graph : Graph) : Type 0 where
  pub is_graph : IsGraph graph
  pub size : graph.ops ≡ length ops
  pub sound : (x : ℕ) → x < graph.count → IsDelayPairWhere (counts_by rule ops) lat ops (graph.from x) (graph.to x) (graph.delay x)
  pub near : (x : ℕ) → x < graph.count → IsNearBy rule lat ops (graph.from x) (graph.to x) (graph.delay x)
  pub all : (i j d : ℕ) → IsDelayPairWhere (counts_by rule ops) lat ops i j d → IsNearBy rule lat ops i j d → LeadsTo graph i j d
