-- What terms mean on a memory.
use Rattle.std.specs.Prelude.{ℕ, ◌≡◌, ◌<◌, ◌==◌, ◌%◌, ◌/◌, if◌then◌else◌, true, false, List, length, slice_index_or, Option, Some, None, IfSome, unwrap_or, option_map, ℤ, pos, ◌+ℤ◌, ◌-ℤ◌, ◌*ℤ◌, FitsSigned}
use Rattle.std.specs.Int.{w32, cast_unsigned, int_shl, int_shr}
use Rattle.std.specs.Ordering.{int_eq}
use Rattle.iloc_meaning.specs.Address.{good_address}
use Rattle.iloc_meaning.specs.Arithmetic.{wrapped}
use Rattle.iloc_meaning.specs.Memory.{word_at}
use Rattle.iloc_terms.specs.declared.table.node.Binary.{Binary}
use Rattle.iloc_terms.specs.declared.table.node.Binary.TheVariants.{Product, ShiftLeft, ShiftRight}
use Rattle.iloc_terms.specs.declared.table.tries.Found.{Found}
use Rattle.iloc_terms.specs.declared.table.tries.Found.TheVariants.{Term, Nothing, Untold}
use Rattle.iloc_terms.specs.declared.table.memories.LoadSource.{LoadSource}
use Rattle.iloc_terms.specs.declared.table.memories.LoadSource.TheVariants.{Written, In}
use Rattle.iloc_terms.specs.declared.table.node.Node.{Node}
use Rattle.iloc_terms.specs.declared.table.node.Node.TheVariants.{Known, Offset, Sum, Combined, Word, Start, Epoch, Empty, Leaf, Fork}

-- for each number a word, what stands at each address of a memory, and what a trie has at each key
pub record Meaning : Type 0 where
  pub word : ℕ → ℤ
  pub words : ℕ → ℤ → ℤ
  pub entry : ℕ → ℕ → Option ℤ

-- the word of a base, 0 where there is none
abbrev pub base_word : Meaning → Option ℕ → ℤ
base_word d None = pos 0
base_word d (Some base) = d.word base

-- by how much an address is above a base, modulo 2^32
abbrev pub key_of : ℤ → ℤ → ℕ
key_of base z = cast_unsigned w32 (wrapped (z -ℤ base))

-- what the five highest bits of a word say: by how many bits a shift goes, of whose amount this is 2^27 times
abbrev pub high_bits : ℤ → ℕ
high_bits z = cast_unsigned w32 z / 134217728

abbrev pub computed : Binary → ℤ → ℤ → ℤ
computed Product x y = wrapped (x *ℤ y)
computed ShiftLeft x y = int_shl w32 x (high_bits y)
computed ShiftRight x y = int_shr x (high_bits y)

-- the word at a good address, 0 at every other
abbrev pub word_or_zero : List ℤ → ℤ → ℤ
word_or_zero memory z = unwrap_or (option_map (word_at memory) (good_address z)) (pos 0)

-- a memory's words with one written at address a
abbrev pub with_word : (ℤ → ℤ) → ℤ → ℤ → ℤ → ℤ
with_word words a word z = if int_eq z a then word else words z

-- number k means what the term says, where the memory handed in is this one
abbrev pub Means : List ℤ → Meaning → ℕ → Node → Type 0
Means memory d k (Known word) = d.word k ≡ wrapped word
Means memory d k (Offset base c) = d.word k ≡ wrapped (d.word base +ℤ c)
Means memory d k (Sum rest atom by) = d.word k ≡ wrapped (base_word d rest +ℤ d.word atom *ℤ by)
Means memory d k (Combined by left right) = d.word k ≡ computed by (d.word left) (d.word right)
Means memory d k (Word address m) = d.word k ≡ d.words m (d.word address)
Means memory d k Start = (z : ℤ) → d.words k z ≡ word_or_zero memory z
Means memory d k (Epoch m base trie) =
    (z : ℤ) → d.words k z ≡ unwrap_or (d.entry trie (key_of (base_word d base) z)) (d.words m z)
Means memory d k Empty = (key : ℕ) → d.entry k key ≡ None
Means memory d k (Leaf at value) = (key : ℕ) → d.entry k key ≡ (if key == at then Some (d.word value) else None)
Means memory d k (Fork even odd) =
    (key : ℕ) → d.entry k key ≡ (if key % 2 == 0 then d.entry even (key / 2) else d.entry odd (key / 2))

-- the term with number k, the first where there is none
abbrev pub node_at : List Node → ℕ → Node
node_at nodes k = slice_index_or nodes k Start

-- each number means what its term says, and each word has 32 bits
pub record IsMeaning (memory : List ℤ) (nodes : List Node) (d : Meaning) : Type 0 where
  pub each : (k : ℕ) → k < length nodes → Means memory d k (node_at nodes k)
  pub fits : (k : ℕ) → FitsSigned w32 (d.word k)

-- number k is the term's
pub record IsNode (nodes : List Node) (k : ℕ) (node : Node) : Type 0 where
  pub within : k < length nodes
  pub is : node_at nodes k ≡ node

-- whatever the new terms mean, the old ones meant it, and this holds
abbrev pub Adds : List Node → List Node → (List ℤ → Meaning → Type 0) → Type 0
Adds old new P = (memory : List ℤ) (d : Meaning) → IsMeaning memory new d → IsMeaning memory old d × P memory d

-- the trie has this at the key, and at every other what the old one has
abbrev pub PutsAt : Meaning → ℕ → ℕ → ℕ → Option ℕ → Type 0
PutsAt d trie at value None = Unit {0}
PutsAt d trie at value (Some new) =
    (key : ℕ) → d.entry new key ≡ (if key == at then Some (d.word value) else d.entry trie key)

-- what is found in a trie: a term, nothing, or it isn't told
abbrev pub IsFound : Meaning → ℕ → ℕ → Found → Type 0
IsFound d trie key (Term value) = d.entry trie key ≡ Some (d.word value)
IsFound d trie key Nothing = d.entry trie key ≡ None
IsFound d trie key Untold = Unit {0}

-- the tries of a trie's even and odd keys
abbrev pub AreHalves : Meaning → ℕ → Option (ℕ × ℕ) → Type 0
AreHalves d trie None = Unit {0}
AreHalves d trie (Some halves) =
    (key : ℕ) → d.entry trie key
    ≡ (if key % 2 == 0 then d.entry halves.0 (key / 2) else d.entry halves.1 (key / 2))

-- the trie has what the old one has at every other key
abbrev pub IsSameBut : Meaning → ℕ → ℕ → ℕ → Type 0
IsSameBut d trie key new = (other : ℕ) → (other == key) ≡ false → d.entry new other ≡ d.entry trie other

-- the trie has the words of `under` and of `over`; where both have one, the word of `over`
abbrev pub IsUnion : Meaning → ℕ → ℕ → Option ℕ → Type 0
IsUnion d under over None = Unit {0}
IsUnion d under over (Some new) =
    (key : ℕ) (word : ℤ)
    → unwrap_or (d.entry new key) word ≡ unwrap_or (d.entry over key) (unwrap_or (d.entry under key) word)

-- the trie has no other word than this one
abbrev pub HasOnly : Meaning → ℕ → ℕ → Type 0
HasOnly d trie value = (key : ℕ) → unwrap_or (d.entry trie key) (d.word value) ≡ d.word value

-- the memory `new` has the words of `trie`, at their keys from `base` on, and elsewhere the words of `memory`
abbrev pub IsOver : Meaning → ℕ → Option ℕ → ℕ → ℕ → Type 0
IsOver d memory base trie new =
    (z : ℤ) → d.words new z ≡ unwrap_or (d.entry trie (key_of (base_word d base) z)) (d.words memory z)

-- one trie does over the memory what the other does
abbrev pub IsOverSame : Meaning → ℕ → Option ℕ → ℕ → ℕ → Type 0
IsOverSame d memory base trie new =
    (z : ℤ) → FitsSigned w32 z → unwrap_or (d.entry new (key_of (base_word d base) z)) (d.words memory z)
    ≡ unwrap_or (d.entry trie (key_of (base_word d base) z)) (d.words memory z)

-- the memories have the same words at all other locations
abbrev pub IsSameElsewhere : Meaning → Option ℕ → ℕ → ℕ → ℕ → Type 0
IsSameElsewhere d base key memory new =
    (z : ℤ) → FitsSigned w32 z → (key_of (base_word d base) z == key) ≡ false → d.words new z ≡ d.words memory z

-- the memories have the same word at the location
abbrev pub IsSameAt : Meaning → Option ℕ → ℕ → ℕ → ℕ → Type 0
IsSameAt d base key memory new =
    (z : ℤ) → (key_of (base_word d base) z == key) ≡ true → d.words new z ≡ d.words memory z

-- the trie has nothing at any other key
abbrev pub HasNoOther : Meaning → ℕ → ℕ → Type 0
HasNoOther d trie key = (other : ℕ) → (other == key) ≡ false → d.entry trie other ≡ None

-- the word is a base and a constant together
abbrev pub ArePartsOf : Meaning → ℕ → Option ℕ → ℤ → Type 0
ArePartsOf d number base c = d.word number ≡ wrapped (base_word d base +ℤ c)

-- what an address of a memory has, as far as its last epoch says
abbrev pub IsSeen : Meaning → ℕ → ℕ → LoadSource → Type 0
IsSeen d memory address (Written value) = d.words memory (d.word address) ≡ d.word value
IsSeen d memory address (In other) = d.words memory (d.word address) ≡ d.words other (d.word address)

-- at the address, and nowhere else, the key above the base is this one
abbrev pub IsLocationOf : Meaning → ℕ → Option ℕ → ℕ → Type 0
IsLocationOf d address base key =
    (z : ℤ) → FitsSigned w32 z → (key_of (base_word d base) z == key) ≡ int_eq z (d.word address)

-- the base is another and a term together
abbrev pub IsSum : Meaning → Option ℕ → Option ℕ → ℕ → ℤ → Type 0
IsSum d base rest atom by = base_word d base ≡ wrapped (base_word d rest +ℤ d.word atom *ℤ by)

-- the base is the sum of two, if one is made
abbrev pub IsSumOfBases : Meaning → Option (Option ℕ) → Option ℕ → Option ℕ → Type 0
IsSumOfBases d sum left right = IfSome sum (λ base. base_word d base ≡ wrapped (base_word d left +ℤ base_word d right))

-- the base is a multiple of another, if one is made
abbrev pub IsMultiple : Meaning → Option (Option ℕ) → Option ℕ → ℤ → Type 0
IsMultiple d multiple base by = IfSome multiple (λ it. base_word d it ≡ wrapped (base_word d base *ℤ by))

-- the word of what is left of a product, 1 where nothing is
abbrev pub factor_word : Meaning → Option ℕ → ℤ
factor_word d None = pos 1
factor_word d (Some rest) = d.word rest

-- the word is the product of two, if one is made
abbrev pub IsProduct : Meaning → Option ℕ → ℕ → ℕ → Type 0
IsProduct d product left right = IfSome product (λ it. d.word it ≡ wrapped (d.word left *ℤ d.word right))
