-- The lines of operations, one after another.
use Rattle.iloc_graph.proofs.Common.{◌≡◌, ℕ, ◌+◌, ◌<◌, List, ◌∷◌, ◌++◌, length, get_or, drop, ap, ◌∙◌, append_assoc, add-one, arith, drop-cons, Op, node_line, node_lines}
use Rattle.iloc_explain.proofs.ReadyLines.{joined}

-- one more line
pub line_more : (text new all : List ℕ) (k i : ℕ) (left rest : List Op) (prios : List ℕ) (op : Op) (d : ℕ)
    → i < length prios → left ≡ op ∷ rest → text ++ node_lines k i left (drop i prios) ≡ all
    → new ≡ text ++ node_line k i op (get_or prios i d) → new ++ node_lines k (i + 1) rest (drop (i + 1) prios) ≡ all
line_more text new all k i left rest prios op d known taken so_far pushed = grind (arith, add-one, drop-cons, append_assoc)

-- parts that were pushed one after another
pub cluster_grown : (text headed with_nodes with_edges with_chain whole head nodes edges chain end : List ℕ)
    → headed ≡ text ++ head → with_nodes ≡ headed ++ nodes → with_edges ≡ with_nodes ++ edges → with_chain ≡ with_edges ++ chain
    → whole ≡ with_chain ++ end → whole ≡ text ++ ((((head ++ nodes) ++ edges) ++ chain) ++ end)
cluster_grown text headed with_nodes with_edges with_chain whole head nodes edges chain end h n e c all =
    all ∙ (ap (λ t. t ++ end) (c ∙ ap (λ t. t ++ chain) (e ∙ ap (λ t. t ++ edges) (n ∙ ap (λ t. t ++ nodes) h)))
    ∙ joined text head nodes edges chain end)
