-- What stands last before an operation, and what waits for a store.
use Rattle.std.specs.Prelude.{ℕ, ◌≡◌, ◌<◌, ◌≤◌, ◌+◌, ◌==◌, ◌||◌, Bool, true, false, if◌then◌else◌, List, ◌++◌, Option, Some, None, ℤ, count_by}
use Rattle.std.specs.Option.{option_or}
use Rattle.iloc_ops.specs.declared.op.Op.{Op}
use Rattle.iloc_meaning.specs.Arithmetic.{wrapped}
use Rattle.iloc_meaning.specs.Trace.{op_at}
use Rattle.iloc_timed.specs.declared.kind.Kind.{Kind}
use Rattle.iloc_timed.specs.Kinds.{kind, is_load, is_store, is_output}
use Rattle.iloc_rules.specs.declared.word.Word.{Word}
use Rattle.iloc_rules.specs.declared.word.Word.TheVariants.{Known, Based}
use Rattle.iloc_rules.specs.Apart.{address_at, apart_if_both}
use Rattle.iloc_rules.specs.Steps.Members.{In}
use Rattle.iloc_addresses.specs.declared.dependences.MemoryDependences.{MemoryDependences}
use Rattle.iloc_addresses.specs.declared.dependences.accesses.Access.{Access}
use Rattle.iloc_addresses.specs.declared.dependences.accesses.Accesses.{Accesses}
use Rattle.iloc_addresses.specs.declared.dependences.stores.Stores.{Stores}
use Rattle.iloc_addresses.specs.Steps.ByConstant.{ops_at, count_in}
use Rattle.iloc_addresses.specs.Steps.LastByConstant.{last_at}

-- whether two words have one base, or both none
abbrev pub have_one_base : Word → Word → Bool
have_one_base (Known c) (Known d) = true
have_one_base (Based a c) (Based b d) = a == b
have_one_base _ _ = false

-- the constant of a word
abbrev pub constant_of : Word → ℤ
constant_of (Known c) = c
constant_of (Based b c) = c

-- the word with the base of another and this constant
abbrev pub at_constant : Word → ℤ → Word
at_constant (Known c) d = Known d
at_constant (Based b c) d = Based b d

-- the constant is one of 32 bits
abbrev pub IsShort : ℤ → Type 0
IsShort c = wrapped c ≡ c

-- the store that is found for an address
abbrev pub store_for : Stores → Word → Option ℕ
store_for stores address =
    if have_one_base stores.base address then option_or (last_at stores.own (constant_of address)) stores.other
    else stores.last

-- how many of the operations that wait for a store pass a test
abbrev pub waiting_by : (ℕ → Bool) → Accesses → ℕ
waiting_by test accesses = count_by (λ access. test access.op) accesses.recent.items + count_in test accesses.kept

-- how many operations wait for a store
abbrev pub waiting : MemoryDependences → ℕ
waiting dependences = waiting_by (λ i. true) dependences.accesses

-- `of` has the addresses of the operations that wait, and the ones that are kept have the base of the last store
pub record ArePlaced (of : ℕ → Option Word) (accesses : Accesses) : Type 0 where
  pub recent : (a : Access) → In accesses.recent.items a → (of a.op ≡ Some a.address) × IsShort (constant_of a.address)
  pub kept : (c : ℤ) (i : ℕ) → In (ops_at accesses.kept c) i → (of i ≡ Some (at_constant accesses.base c)) × IsShort c

-- the last number below n of which P holds
abbrev pub IsLast : (ℕ → Type 0) → ℕ → Option ℕ → Type 0
IsLast P n None = (k : ℕ) → k < n → P k → ⊥
IsLast P n (Some m) = (m < n) × P m × ((k : ℕ) → m < k → k < n → P k → ⊥)

-- operation i is a store that isn't apart from what has this address
abbrev pub IsStoreAt : List Op → Option Word → ℕ → Type 0
IsStoreAt ops address i =
    (is_store (kind (op_at ops i)) ≡ true) × (apart_if_both (address_at ops i) address ≡ false)

-- operation i waits for a store before operation j: it is a load or an output, and no store since that isn't apart
pub record IsWaiting (ops : List Op) (i j : ℕ) : Type 0 where
  pub before : i < j
  pub reads : (is_load (kind (op_at ops i)) || is_output (kind (op_at ops i))) ≡ true
  pub alone : (k : ℕ) → i < k → k < j → IsStoreAt ops (address_at ops i) k → ⊥

-- what is known before operation `j` of `ops`
pub record IsBefore (ops : List Op) (dependences : MemoryDependences) (j : ℕ) : Type 0 where
  pub last : IsLast (λ i. is_store (kind (op_at ops i)) ≡ true) j dependences.stores.last
  pub stores : (w : Word) → IsShort (constant_of w) → IsLast (IsStoreAt ops (Some w)) j (store_for dependences.stores w)
  pub output : IsLast (λ i. is_output (kind (op_at ops i)) ≡ true) j dependences.output
  pub placed : ArePlaced (address_at ops) dependences.accesses
  pub waiting : (i : ℕ) → 0 < waiting_by (λ k. k == i) dependences.accesses → IsWaiting ops i j
  pub all : (i : ℕ) → IsWaiting ops i j → 0 < waiting_by (λ k. k == i) dependences.accesses
  pub once : (i : ℕ) → waiting_by (λ k. k == i) dependences.accesses ≤ 1

-- operation j is the next, of this kind, and this is known of its address
pub record IsNext (ops : List Op) (k : Kind) (address : Option Word) (j : ℕ) : Type 0 where
  pub kind_is : k ≡ kind (op_at ops j)
  pub address_is : address ≡ address_at ops j

-- operations that waited and aren't apart from an address are at the end of a list now
pub record Finds (address : Word) (old new : Accesses) (list list' : List ℕ) : Type 0 where
  pub moved : List ℕ
  pub behind : list' ≡ list ++ moved
  pub count : (test : ℕ → Bool) → count_by test moved + waiting_by test new ≡ waiting_by test old
  pub near : (of : ℕ → Option Word) → ArePlaced of old → (i : ℕ) → In moved i → apart_if_both (of i) (Some address) ≡ false
  pub placed : (of : ℕ → Option Word) → ArePlaced of old → ArePlaced of new

-- the operations that wait on are apart from `address`
abbrev pub AreFar : Word → Accesses → Type 0
AreFar address accesses = (of : ℕ → Option Word) → ArePlaced of accesses → IsShort (constant_of address) → (i : ℕ)
    → 0 < waiting_by (λ k. k == i) accesses → apart_if_both (of i) (Some address) ≡ true
