use Rattle.iloc_terms.proofs.Terms.Nodes.{empty_no_other, leaf_no_other}
use Rattle.iloc_terms.proofs.table.Table.is_at_most_at.Goals as goal

pub returns-in-Some-Empty : goal.returns-in-Some-Empty
returns-in-Some-Empty c = λ yes memory d meaning.
    empty_no_other memory c.args.self.now d c.args.trie c.args.key meaning
    (rw c.in-Some-Empty.field-0-is at c.in-Some-Empty.ensures)

pub returns-in-Some-Leaf : goal.returns-in-Some-Leaf
returns-in-Some-Leaf c = λ yes memory d meaning.
    leaf_no_other memory c.args.self.now d c.args.trie c.args.key _ _ meaning
    (rw c.in-Some-Leaf.field-0-is at c.in-Some-Leaf.ensures) yes
