-- What holds of dependence graphs as a whole.
use Rattle.std.specs.Prelude.{ℕ, ◌+◌, ◌≡◌, ◌≤◌, ◌↔◌, List, [], ◌∷◌, Option, Contains}
use Rattle.iloc_ops.specs.declared.op.Op.{Op}
use Rattle.iloc_timed.specs.declared.latencies.Latencies.{Latencies}
use Rattle.iloc_timed.specs.declared.row.Row.{Row}
use Rattle.iloc_timed.specs.Rows.{issue_cycle}
use Rattle.iloc_rules.specs.declared.memory_rule.MemoryRule.{MemoryRule}
use Rattle.iloc_explain.specs.Chain.{IsLongestChain, chain_by}
use Rattle.iloc_explain.specs.Waiting.{WaitsForAll}
use Rattle.iloc_graph.specs.Nearest.{nearest_pairs}
use Rattle.iloc_graph.specs.Listing.{IsCluster}

-- the rows wait for the nearest pairs of the operations
abbrev pub WaitsForNearest : MemoryRule → Latencies → List Op → List Row → Type 0
WaitsForNearest rule lat ops rows =
    (i j d : ℕ) → Contains (nearest_pairs rule lat ops) (record { first = i; second = j; delay = d })
    → issue_cycle rows i + d ≤ issue_cycle rows j

-- rows wait for the nearest pairs exactly where they wait for all
abbrev pub NearestPairsImplyAll : Type 0
NearestPairsImplyAll =
    (rule : MemoryRule) (lat : Latencies) (ops : List Op) (rows : List Row)
    → WaitsForNearest rule lat ops rows ↔ WaitsForAll rule lat ops rows

-- each operation of the chain but the last has a nearest pair with the next one, whose delay its longest chain counts
abbrev pub RunsAlong : MemoryRule → Latencies → List Op → List ℕ → Type 0
RunsAlong rule lat ops [] = Unit {0}
RunsAlong rule lat ops (i ∷ []) = Unit {0}
RunsAlong rule lat ops (i ∷ j ∷ chain) =
    ((d : ℕ) × Contains (nearest_pairs rule lat ops) (record { first = i; second = j; delay = d })
    × (chain_by rule lat ops i ≡ d + chain_by rule lat ops j)) × RunsAlong rule lat ops (j ∷ chain)

-- so it is with a longest chain of delays
abbrev pub ChainsRunAlongNearestPairs : Type 0
ChainsRunAlongNearestPairs =
    (rule : MemoryRule) (lat : Latencies) (ops : List Op) (chain : List ℕ) → IsLongestChain rule lat ops chain → RunsAlong rule lat ops chain

-- there is one text that draws a block
abbrev pub BlocksHaveOneCluster : Type 0
BlocksHaveOneCluster = (rule : MemoryRule) (lat : Latencies) (k : ℕ) (name : Option (List ℕ)) (block : List Op) (text text' : List ℕ)
    → IsCluster rule lat k name block text → IsCluster rule lat k name block text' → text ≡ text'
