-- The operations that wait for each directly, counted.
use Rattle.std.specs.Prelude.{ℕ, ◌+◌, ◌-◌, ◌*◌, ◌≡◌, ◌<◌, ◌≤◌, ◌==◌, ◌&&◌, ◌||◌, not, Bool, true, false, if◌then◌else◌, List, length, nat_lt, slice_index, count_by, unwrap_or, Option, Some, None, ℤ, pos, get_or}
use Rattle.std.specs.List.{range_with_len}
use Rattle.std.specs.Option.{option_cmp}
use Rattle.std.specs.Ordering.{nat_cmp, int_cmp, ordering_then}
use Rattle.std.specs.BTreeMap.{get}
use Rattle.std.specs.declared.cmp.Ordering.{Ordering}
use Rattle.iloc_ops.specs.declared.op.Reg.{Reg}
use Rattle.iloc_ops.specs.declared.op.Op.{Op}
use Rattle.iloc_ops.specs.Registers.{defined}
use Rattle.iloc_meaning.specs.Trace.{op_at, is_register}
use Rattle.iloc_timed.specs.declared.kind.Kind.{Kind}
use Rattle.iloc_timed.specs.declared.kind.Kind.TheVariants as K
use Rattle.iloc_timed.specs.Kinds.{kind, is_memory, is_output}
use Rattle.iloc_rules.specs.declared.word.Word.{Word}
use Rattle.iloc_rules.specs.declared.word.Word.TheVariants.{Known, Based}
use Rattle.iloc_rules.specs.Apart.{apart_if_both}
use Rattle.iloc_rules.specs.Delays.{Counts, keeps_order_where, reads_stored, uses_result}
use Rattle.iloc_addresses.specs.declared.successors.address_counts.AddressCounts.{AddressCounts}
use Rattle.iloc_addresses.specs.declared.successors.definers.Definers.{Definers}
use Rattle.iloc_addresses.specs.declared.successors.later.Later.{Later}
use Rattle.iloc_addresses.specs.Steps.Dependences.{constant_of, IsShort}

-- whether the second of two operations, given their kinds and addresses, has to wait for the first by memory or outputs
abbrev pub waits_by_memory : Kind → Option Word → Kind → Option Word → Bool
waits_by_memory K.Load v K.Store w = not (apart_if_both v w)
waits_by_memory K.Store v K.Load w = not (apart_if_both v w)
waits_by_memory K.Store v K.Store w = true
waits_by_memory K.Store v K.Output w = not (apart_if_both v w)
waits_by_memory K.Output v K.Store w = not (apart_if_both v w)
waits_by_memory K.Output v K.Output w = true
waits_by_memory _ v _ w = false

-- whether operation `j` does so for operation `i`, where the operations reach the addresses `reached`
abbrev pub is_by_memory : List Op → List (Option Word) → ℕ → ℕ → Bool
is_by_memory ops reached i j =
    waits_by_memory (kind (op_at ops i)) (get_or reached i None) (kind (op_at ops j)) (get_or reached j None)

-- whether operation `j` is a later one, uses the result of operation `i`, and doesn't wait for it by memory anyway
abbrev pub is_by_use : List Op → List (Option Word) → ℕ → ℕ → Bool
is_by_use ops reached i j =
    nat_lt i j && (uses_result (op_at ops i) (op_at ops j) && not (is_by_memory ops reached i j))

-- the one address that is taken for all, where a kind is ordered by memory or outputs
abbrev pub one_address : Kind → Option Word
one_address K.Load = Some (Known (pos 0))
one_address K.Store = Some (Known (pos 0))
one_address K.Mult = None
one_address K.Output = Some (Known (pos 0))
one_address K.Other = None

-- Each operation that memory or outputs order reaches one of the addresses `reached`, and by these operations wait for each other
-- just where they do by `counts`.
pub record AreReached (counts : Counts) (ops : List Op) (reached : List (Option Word)) : Type 0 where
  pub size : length reached ≡ length ops
  pub none : (i : ℕ) → i < length ops → get_or reached i None ≡ None
      → (is_memory (kind (op_at ops i)) || is_output (kind (op_at ops i))) ≡ false
  pub waits : (i j : ℕ) → i < length ops → j < length ops
      → ((counts i j && reads_stored (kind (op_at ops i)) (kind (op_at ops j)))
      || keeps_order_where (counts i j) (kind (op_at ops i)) (kind (op_at ops j))) ≡ is_by_memory ops reached i j

-- the base of a word, if it has one
abbrev pub base_of : Word → Option ℕ
base_of (Known c) = None
base_of (Based b c) = Some b

-- how bases are ordered
abbrev pub base_cmp : Option ℕ → Option ℕ → Ordering
base_cmp = option_cmp nat_cmp

-- how words are: by base, and then by constant
abbrev pub word_cmp : Option ℕ × ℤ → Option ℕ × ℤ → Ordering
word_cmp v w = ordering_then (base_cmp v.0 w.0) (int_cmp v.1 w.1)

-- how many addresses have a base
abbrev pub with_base : AddressCounts → Option ℕ → ℕ
with_base counts base = unwrap_or (get base_cmp counts.by_base base) 0

-- how many are this one
abbrev pub with_both : AddressCounts → Option ℕ → ℤ → ℕ
with_both counts base constant = unwrap_or (get word_cmp counts.by_word (base, constant)) 0

-- how many aren't apart from this one
abbrev pub near : AddressCounts → Word → ℕ
near counts w = counts.all - with_base counts (base_of w) + with_both counts (base_of w) (constant_of w)

-- no more have a base than there are, and no more are one than have its base
pub record AreNested (counts : AddressCounts) : Type 0 where
  pub bases : (base : Option ℕ) → with_base counts base ≤ counts.all
  pub words : (base : Option ℕ) (constant : ℤ) → with_both counts base constant ≤ with_base counts base

pub record AreCounts (later : Later) : Type 0 where
  pub stores : AreNested later.stores
  pub reads : AreNested later.reads

-- how many of the `later` operations wait for one of a kind at the address `w`
abbrev pub waiting_for : Kind → Word → Later → ℕ
waiting_for K.Load w later = near later.stores w
waiting_for K.Store w later = later.stores.all + near later.reads w
waiting_for K.Mult w later = 0
waiting_for K.Output w later = near later.stores w + later.outputs
waiting_for K.Other w later = 0

-- how many are noted, each output twice
abbrev pub noted : Later → ℕ
noted later = later.stores.all + later.reads.all + later.outputs

-- whether it is this number
abbrev pub is_number : ℕ → Option ℕ → Bool
is_number i None = false
is_number i (Some k) = k == i

-- the operation that defines a register
abbrev pub definer : Definers → Reg → Option ℕ
definer definers r = get nat_cmp definers.ops r.0

-- `definers` has the operation before operation `j` that defines each register
abbrev pub AreDefiners : List Op → ℕ → Definers → Type 0
AreDefiners ops j definers =
    (i : ℕ) (r : Reg) → is_number i (definer definers r) ≡ (nat_lt i j && is_register r (defined (op_at ops i)))

-- how many of the operations before operation `n` use the result of operation `i`, and don't wait for it by memory anyway
abbrev pub uses_before : List Op → List (Option Word) → ℕ → ℕ → ℕ
uses_before ops reached i n = count_by (is_by_use ops reached i) (range_with_len 0 n)

-- `found` has for each operation the number of its uses by operations before `j`
pub record AreUsesCounted (ops : List Op) (reached : List (Option Word)) (found : List ℕ) (j : ℕ) : Type 0 where
  pub size : length found ≡ length ops
  pub each : (i : ℕ) → slice_index found i ≡ uses_before ops reached i j

-- how many operations from operation j on pass a test
abbrev pub count_from : (ℕ → Bool) → List Op → ℕ → ℕ
count_from test ops j = count_by test (range_with_len j (length ops - j))

-- the operations from operation j on are noted
pub record AreNoted (ops : List Op) (reached : List (Option Word)) (later : Later) (j : ℕ) : Type 0 where
  pub waiting : (k : Kind) (w : Word) → IsShort (constant_of w) → waiting_for k w later
      ≡ count_from (λ i. waits_by_memory k (Some w) (kind (op_at ops i)) (get_or reached i None)) ops j
  pub few : noted later ≤ 2 * (length ops - j)
  pub counts : AreCounts later

-- `found` has all uses, and of the operations from `j` on also how many wait for them by memory
pub record AreCounted (ops : List Op) (reached : List (Option Word)) (found : List ℕ) (j : ℕ) : Type 0 where
  pub size : length found ≡ length ops
  pub each : (i : ℕ) → i < length ops → slice_index found i
      ≡ uses_before ops reached i (length ops) + (if nat_lt i j then 0 else count_from (is_by_memory ops reached i) ops (i + 1))
