-- The text that draws blocks, in the language of Graphviz.
use Rattle.std.specs.Prelude.{ℕ, ◌+◌, ◌≡◌, ◌==◌, ◌||◌, if◌then◌else◌, List, [], ◌∷◌, ◌++◌, Option, Some, None, codes}
use Rattle.std.specs.List.{flat_map}
use Rattle.std.specs.Fmt.{decimal}
use Rattle.iloc_ops.specs.declared.op.Op.{Op}
use Rattle.iloc_ops.specs.Spelling.{spelling}
use Rattle.iloc_timed.specs.declared.kind.Kind.{Kind}
use Rattle.iloc_timed.specs.declared.kind.Kind.TheVariants as K
use Rattle.iloc_timed.specs.declared.latencies.Latencies.{Latencies}
use Rattle.iloc_timed.specs.Kinds.{kind}
use Rattle.iloc_rules.specs.declared.delay_pairs.Pair.{Pair}
use Rattle.iloc_rules.specs.declared.memory_rule.MemoryRule.{MemoryRule}
use Rattle.iloc_rules.specs.Renaming.{renamed, without_nops}
use Rattle.iloc_explain.specs.Chain.{IsLongestChain, chains_by}
use Rattle.iloc_graph.specs.Nearest.{nearest_pairs}

-- The frame of all blocks. Of a strict graph an edge or a node that is named again gets what is said of it then.
abbrev pub opening : List ℕ
opening =
    codes "strict digraph blocks {\n"
    ++ codes "    bgcolor=\"transparent\"; fontname=\"monospace\"; fontcolor=\"#59636e\"; color=\"#7d8590\";\n"
    ++ codes "    node [shape=box, style=\"filled,rounded\", fontname=\"monospace\", fontcolor=\"#0b0f14\", color=\"transparent\"];\n"
    ++ codes "    edge [fontname=\"monospace\", fontcolor=\"#59636e\", color=\"#7d8590\"];\n"

abbrev pub closing : List ℕ
closing = codes "}\n"

-- the colour of the box of an operation
abbrev pub colour : Kind → List ℕ
colour K.Load = codes "#6cb6ff"
colour K.Store = codes "#b392f0"
colour K.Mult = codes "#f0a35e"
colour K.Output = codes "#6fce7c"
colour K.Other = codes "#b9c0c8"

-- a byte in quotes: `"` and `\` have `\` before them
abbrev pub escaped_byte : ℕ → List ℕ
escaped_byte c = if c == 34 || c == 92 then 92 ∷ c ∷ [] else c ∷ []

-- the name of a block in quotes, `-` where it has none
abbrev pub escaped_name : Option (List ℕ) → List ℕ
escaped_name None = codes "-"
escaped_name (Some name) = flat_map escaped_byte name

-- block k with its name
abbrev pub head_lines : ℕ → Option (List ℕ) → List ℕ
head_lines k name =
    codes "    subgraph cluster_" ++ decimal k ++ codes " {\n        label=\"block " ++ decimal k ++ codes " "
    ++ escaped_name name ++ codes "\";\n"

-- the node `bK_I`: operation i of block k with its number, as it is spelled, which needs no quoting, and with its priority
abbrev pub node_line : ℕ → ℕ → Op → ℕ → List ℕ
node_line k i op priority =
    codes "        b" ++ decimal k ++ codes "_" ++ decimal i ++ codes " [label=\"" ++ decimal i ++ codes ": " ++ spelling op
    ++ codes "\\npriority " ++ decimal priority ++ codes "\", fillcolor=\"" ++ colour (kind op) ++ codes "\"];\n"

-- operations from number i on with their priorities
abbrev pub node_lines : ℕ → ℕ → List Op → List ℕ → List ℕ
node_lines k i [] prios = []
node_lines k i (op ∷ ops) [] = []
node_lines k i (op ∷ ops) (priority ∷ prios) = node_line k i op priority ++ node_lines k (i + 1) ops prios

-- an edge with its delay
abbrev pub edge_line : ℕ → Pair → List ℕ
edge_line k pair =
    codes "        b" ++ decimal k ++ codes "_" ++ decimal pair.first ++ codes " -> b" ++ decimal k ++ codes "_"
    ++ decimal pair.second ++ codes " [label=\"" ++ decimal pair.delay ++ codes "\"];\n"

-- an edge goes on to operation i
abbrev pub link : ℕ → ℕ → List ℕ
link k i = codes " -> b" ++ decimal k ++ codes "_" ++ decimal i

-- operation i or, where there are more, the edges from it along them are marked
abbrev pub path_line : ℕ → ℕ → List ℕ → List ℕ
path_line k i more =
    codes "        b" ++ decimal k ++ codes "_" ++ decimal i ++ flat_map (link k) more
    ++ codes " [color=\"#e5484d\", penwidth=2];\n"

-- the edges of a chain, and then its nodes, are marked
abbrev pub chain_lines : ℕ → List ℕ → List ℕ
chain_lines k [] = []
chain_lines k (i ∷ chain) = path_line k i chain ++ flat_map (λ j. path_line k j []) (i ∷ chain)

-- The text draws block k by a rule of memory: a node for each operation as it stands in the block, an edge for each nearest pair, and a longest
-- chain of delays.
pub record IsCluster (rule : MemoryRule) (lat : Latencies) (k : ℕ) (name : Option (List ℕ)) (block : List Op)
    (text : List ℕ) : Type 0 where
  pub chain : List ℕ
  pub longest : IsLongestChain rule lat (renamed block) chain
  pub listed : text ≡ head_lines k name ++ node_lines k 0 (without_nops block) (chains_by rule lat (renamed block))
      ++ flat_map (edge_line k) (nearest_pairs rule lat (renamed block)) ++ chain_lines k chain ++ codes "    }\n"
