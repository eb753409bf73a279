-- The kept edges while they are made.
use Rattle.std.specs.Prelude.{ℕ, ◌+◌, ◌≡◌, ◌≢◌, ◌<◌, ◌≤◌, ◌*◌, List, length, vec_capacity, Some, Contains}
use Rattle.iloc_ops.specs.declared.op.Reg.{Reg}
use Rattle.iloc_ops.specs.declared.op.Op.{Op}
use Rattle.iloc_ops.specs.Registers.{used, defined}
use Rattle.iloc_meaning.specs.Trace.{op_at}
use Rattle.iloc_timed.specs.declared.latencies.Latencies.{Latencies}
use Rattle.iloc_timed.specs.Latency.{latency}
use Rattle.iloc_sched.specs.declared.edges.Edges.{Edges}
use Rattle.iloc_rules.specs.declared.memory_rule.MemoryRule.{MemoryRule}
use Rattle.iloc_rules.specs.Delays.{memory_delays, IsDelayPairWhere}
use Rattle.iloc_rules.specs.Rule.{counts_by}
use Rattle.iloc_sched.specs.Graph.Near.{IsNearBy, IsNearPairBy, NoneBetween}
use Rattle.iloc_sched.specs.Steps.Graph.{Graph, IsLast}

-- all edges into operations before `j` are in `graph`, and some of the edges into `j`
pub record IsPartialGraph (rule : MemoryRule) (lat : Latencies) (ops : List Op) (graph : Graph) (j : ℕ) : Type 0 where
  pub size : graph.ops ≡ length ops
  pub rises : (a b : ℕ) → a ≤ b → b ≤ j → graph.start a ≤ graph.start b
  pub top : graph.start j ≤ graph.count
  pub into : (b x : ℕ) → b < j → graph.start b ≤ x → x < graph.start (b + 1) → graph.to x ≡ b
  pub into_last : (x : ℕ) → graph.start j ≤ x → x < graph.count → graph.to x ≡ j
  pub to_there : (x : ℕ) → x < graph.start j → (graph.to x < j) × (graph.start (graph.to x) ≤ x) × (x < graph.start (graph.to x + 1))
  pub sound : (x : ℕ) → x < graph.count → IsNearPairBy rule lat ops (graph.from x) (graph.to x) (graph.delay x)
  pub heads : (i : ℕ) → i < graph.ops → IsLast (λ x. graph.from x ≡ i) graph.count (graph.head i)
  pub previous_edges : (x : ℕ) → x < graph.count → IsLast (λ y. graph.from y ≡ graph.from x) x (graph.previous x)
  pub all : (i b d : ℕ) → b < j → IsDelayPairWhere (counts_by rule ops) lat ops i b d → IsNearBy rule lat ops i b d → (x : ℕ) × (x < graph.start j) × (graph.to x ≡ b) × (graph.from x ≡ i) × (d ≤ graph.delay x)

-- an edge into j, the last operation so far, from i with at least the delay d
pub record HasEdge (graph : Graph) (j i d : ℕ) : Type 0 where
  pub place : ℕ
  pub after : graph.start j ≤ place
  pub there : place < graph.count
  pub source : graph.from place ≡ i
  pub long : d ≤ graph.delay place

-- one edge more, the last
pub record HasOneMore (graph graph' : Graph) (i j d : ℕ) : Type 0 where
  pub ops : graph'.ops ≡ graph.ops
  pub count : graph'.count ≡ graph.count + 1
  pub start : (k : ℕ) → graph'.start k ≡ graph.start k
  pub from : (x : ℕ) → x < graph.count → graph'.from x ≡ graph.from x
  pub to : (x : ℕ) → x < graph.count → graph'.to x ≡ graph.to x
  pub delay : (x : ℕ) → x < graph.count → graph'.delay x ≡ graph.delay x
  pub previous : (x : ℕ) → x < graph.count → graph'.previous x ≡ graph.previous x
  pub last_from : graph'.from graph.count ≡ i
  pub last_to : graph'.to graph.count ≡ j
  pub last_delay : graph'.delay graph.count ≡ d
  pub last_previous : graph'.previous graph.count ≡ graph.head i
  pub head : graph'.head i ≡ Some graph.count
  pub heads : (k : ℕ) → k ≢ i → graph'.head k ≡ graph.head k

-- there is capacity for n operations and the edges into them
pub record HasCapacity (e : Edges) (n : ℕ) : Type 0 where
  pub starts : n < vec_capacity e.starts
  pub heads : n ≤ vec_capacity e.heads
  pub edges : 5 * n ≤ vec_capacity e.edges

-- the capacities stay
pub record KeepsCapacity (old new : Edges) : Type 0 where
  pub starts : vec_capacity new.starts ≡ vec_capacity old.starts
  pub heads : vec_capacity new.heads ≡ vec_capacity old.heads
  pub edges : vec_capacity new.edges ≡ vec_capacity old.edges

-- from `old` to `new`, the number of operations, the starts of the edges of earlier ones and the capacities stay
pub record KeepsFrame (old new : Edges) : Type 0 where
  pub heads : length new.heads.items ≡ length old.heads.items
  pub starts : new.starts ≡ old.starts
  pub capacity : KeepsCapacity old new

-- more edges into j, the others as they were
pub record Grows (rule : MemoryRule) (lat : Latencies) (ops : List Op) (graph graph' : Graph) (j : ℕ) : Type 0 where
  pub partial : IsPartialGraph rule lat ops graph' j
  pub keeps : (i d : ℕ) → HasEdge graph j i d → HasEdge graph' j i d

-- edges into j with delay d are added, from each operation of which P holds
abbrev pub AddsFrom : (ℕ → Type 0) → Graph → Graph → ℕ → ℕ → Type 0
AddsFrom P graph graph' j d =
    (rule : MemoryRule) (lat : Latencies) (ops : List Op) → IsPartialGraph rule lat ops graph j
    → ((i : ℕ) → P i → IsNearPairBy rule lat ops i j d) → Grows rule lat ops graph graph' j × ((i : ℕ) → P i → HasEdge graph' j i d)

-- a use of register r has its edge
abbrev pub CoversUse : Latencies → List Op → Graph → ℕ → Reg → Type 0
CoversUse lat ops graph j r = (i : ℕ) → i < j → defined (op_at ops i) ≡ Some r → HasEdge graph j i (latency lat (op_at ops i))

-- all uses of operation j have their edges
abbrev pub CoversUses : Latencies → List Op → Graph → ℕ → Type 0
CoversUses lat ops graph j = (r : Reg) → Contains (used (op_at ops j)) r → CoversUse lat ops graph j r

-- what j has to wait for by memory and outputs, near, has its edges
abbrev pub CoversMemory : Latencies → List Op → Graph → ℕ → Type 0
CoversMemory lat ops graph j = (i d : ℕ) → i < j → Contains (memory_delays lat (op_at ops i) (op_at ops j)) d → NoneBetween ops i j → HasEdge graph j i d
