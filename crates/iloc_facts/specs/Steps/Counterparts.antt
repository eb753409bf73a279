-- The counterparts of operations: each is paired with the one of its label that has as many before it.
use Rattle.std.specs.Prelude.{ℕ, ◌+◌, ◌≡◌, ◌<◌, ◌≤◌, true, List, length, take, slice_index_or, count_by, is_none, Option, Some, None}
use Rattle.iloc_ops.specs.declared.op.Op.{Op}
use Rattle.iloc_meaning.specs.Trace.{op_at}
use Rattle.iloc_facts.specs.declared.counterparts.chains.Chains.{Chains}
use Rattle.iloc_facts.specs.declared.counterparts.lacking.Lacking.{Lacking}
use Rattle.iloc_facts.specs.Counts.{are_alike, count_like}
use Rattle.iloc_facts.specs.ByLabel.{number_like}

-- what is noted at a place
abbrev pub noted_at : List (Option ℕ) → ℕ → Option ℕ
noted_at noted k = slice_index_or noted k None

-- the operation like this one that has n before it, if there is one
abbrev pub IsNth : List Op → Op → ℕ → Option ℕ → Type 0
IsNth ops op n None = count_like op ops ≤ n
IsNth ops op n (Some k) = (k < length ops) × (are_alike op (op_at ops k) ≡ true) × (count_like op (take k ops) ≡ n)

-- the chains of the operations from operation k on: of each label the first of them, and of each of them the next like it
pub record AreChained (ops : List Op) (k : ℕ) (chains : Chains) : Type 0 where
  pub size : length chains.next.items ≡ length ops
  pub first : (op : Op) → IsNth ops op (count_like op (take k ops)) (number_like chains.waiting op)
  pub next : (j : ℕ) → k ≤ j → j < length ops
      → IsNth ops (op_at ops j) (count_like (op_at ops j) (take j ops) + 1) (noted_at chains.next.items j)

-- the counterpart of operation i among the others: like it, and with as many before it
abbrev pub IsCounterpart : List Op → List Op → ℕ → Option ℕ → Type 0
IsCounterpart ops others i o = IsNth others (op_at ops i) (count_like (op_at ops i) (take i ops)) o

-- `counterparts` has the counterpart of each operation of `ops` among `others`
pub record AreCounterparts (ops others : List Op) (counterparts : List (Option ℕ)) : Type 0 where
  pub size : length counterparts ≡ length ops
  pub each : (i : ℕ) → i < length ops → IsCounterpart ops others i (noted_at counterparts i)

-- how many operations have none of `counterparts`, and one of them
abbrev pub IsLackingIn : List (Option ℕ) → Option Lacking → Type 0
IsLackingIn counterparts None = count_by is_none counterparts ≡ 0
IsLackingIn counterparts (Some it) = (it.count ≡ count_by is_none counterparts) × (0 < it.count)
    × (it.number < length counterparts) × (noted_at counterparts it.number ≡ None)
