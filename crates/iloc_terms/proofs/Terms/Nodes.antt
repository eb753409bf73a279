-- What the terms of a table mean.
use Rattle.iloc_terms.proofs.Common.{◌≡◌, ℕ, true, List, ℤ, ◌==◌, subst, arith, eqb-true, HasNoOther, IsMeaning, IsNode, Meaning, Means, Node}
use Rattle.iloc_terms.specs.declared.table.node.Node.TheVariants.{Empty, Leaf}

-- a term of the table means what it says
pub node_means : (memory : List ℤ) (nodes : List Node) (d : Meaning) (k : ℕ) (node : Node) → IsMeaning memory nodes d
    → IsNode nodes k node → Means memory d k node
node_means memory nodes d k node meaning there = subst (Means memory d k) there.is (meaning.each k there.within)

pub empty_no_other : (memory : List ℤ) (nodes : List Node) (d : Meaning) (trie key : ℕ) → IsMeaning memory nodes d
    → IsNode nodes trie Empty → HasNoOther d trie key
empty_no_other memory nodes d trie key meaning there = λ other differs.
    node_means memory nodes d trie Empty meaning there other

pub leaf_no_other : (memory : List ℤ) (nodes : List Node) (d : Meaning) (trie key at value : ℕ)
    → IsMeaning memory nodes d → IsNode nodes trie (Leaf at value) → (at == key) ≡ true → HasNoOther d trie key
leaf_no_other memory nodes d trie key at value meaning there same = grind (arith, eqb-true, node_means)
