-- The same terms at the ends of two schedules.
use Rattle.std.specs.Prelude.{ℕ, ◌≡◌, ◌==◌, Bool, not, true, false, List, slice_index_or, ℤ}
use Rattle.std.specs.List.{list_any}
use Rattle.iloc_meaning.specs.Address.{is_good}
use Rattle.iloc_terms.specs.declared.symbols.Symbols.{Symbols}
use Rattle.iloc_terms.specs.declared.table.node.Node.{Node}
use Rattle.iloc_terms.specs.Steps.Order.{IsOrdered}
use Rattle.iloc_terms.specs.Steps.Terms.{Meaning, IsMeaning}
use Rattle.iloc_terms.specs.Steps.Symbols.{some_bad}

-- whether number k stands in the list
abbrev pub is_in : List ℕ → ℕ → Bool
is_in numbers k = list_any (λ j. k == j) numbers

-- only numbers of the list are marked
abbrev pub AreMarks : List ℕ → List Bool → Type 0
AreMarks numbers marks = (k : ℕ) → slice_index_or marks k false ≡ true → is_in numbers k ≡ true

-- number k is a good address, whatever the terms mean
abbrev pub IsSurelyGood : List Node → ℕ → Type 0
IsSurelyGood nodes k = (memory : List ℤ) (d : Meaning) → IsMeaning memory nodes d → is_good (d.word k) ≡ true

-- number k is a good address where two others are, whatever the terms mean
abbrev pub IsGoodWith : List Node → ℕ → ℕ → ℕ → Type 0
IsGoodWith nodes one other k =
    (memory : List ℤ) (d : Meaning) → IsMeaning memory nodes d → is_good (d.word one) ≡ true
    → is_good (d.word other) ≡ true → is_good (d.word k) ≡ true

-- whatever the terms mean, if number `k` is a bad address, one of `those` is
abbrev pub IsBadWith : List Node → List ℕ → ℕ → Type 0
IsBadWith nodes those k =
    (memory : List ℤ) (d : Meaning) → IsMeaning memory nodes d → not (is_good (d.word k)) ≡ true
    → some_bad d those ≡ true

-- whatever the terms mean, if one of `these` is a bad address, one of `those` is
abbrev pub BadThere : List Node → List ℕ → List ℕ → Type 0
BadThere nodes these those =
    (memory : List ℤ) (d : Meaning) → IsMeaning memory nodes d → some_bad d these ≡ true → some_bad d those ≡ true

-- the same outputs and, where not outputs alone are compared, memory; and where one has a bad address the other has
pub record AreSame (alone : Bool) (d : Meaning) (one other : Symbols) : Type 0 where
  pub outputs : one.outputs.items ≡ other.outputs.items
  pub memory : alone ≡ false → one.memory ≡ other.memory
  pub there : some_bad d one.addresses.items ≡ true → some_bad d other.addresses.items ≡ true
  pub back : some_bad d other.addresses.items ≡ true → some_bad d one.addresses.items ≡ true

-- the terms are in order, and the ends agree, whatever they mean
pub record SeenSame (alone : Bool) (nodes : List Node) (one other : Symbols) : Type 0 where
  pub ordered : IsOrdered nodes
  pub agreed : (memory : List ℤ) (d : Meaning) → IsMeaning memory nodes d → AreSame alone d one other
