-- Terms that name earlier ones alone.
use Rattle.std.specs.Prelude.{ℕ, ◌≡◌, ◌<◌, ◌&&◌, nat_lt, Bool, true, List, length, Option, Some, None}
use Rattle.iloc_terms.specs.declared.table.node.Node.{Node}
use Rattle.iloc_terms.specs.declared.table.node.Node.TheVariants.{Known, Offset, Sum, Combined, Word, Start, Epoch, Empty, Leaf, Fork}
use Rattle.iloc_terms.specs.Steps.Terms.{node_at}

-- whether a base is below k, if there is one
abbrev pub base_below : ℕ → Option ℕ → Bool
base_below k None = true
base_below k (Some base) = nat_lt base k

-- whether a term names numbers below k alone
abbrev pub names_below : ℕ → Node → Bool
names_below k (Known word) = true
names_below k (Offset base c) = nat_lt base k
names_below k (Sum rest atom by) = base_below k rest && nat_lt atom k
names_below k (Combined by left right) = nat_lt left k && nat_lt right k
names_below k (Word address memory) = nat_lt address k && nat_lt memory k
names_below k Start = true
names_below k (Epoch memory base trie) = nat_lt memory k && base_below k base && nat_lt trie k
names_below k Empty = true
names_below k (Leaf at value) = nat_lt value k
names_below k (Fork even odd) = nat_lt even k && nat_lt odd k

-- each term names numbers below its own alone
abbrev pub IsOrdered : List Node → Type 0
IsOrdered nodes = (k : ℕ) → k < length nodes → names_below k (node_at nodes k) ≡ true
