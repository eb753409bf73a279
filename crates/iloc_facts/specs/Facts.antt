-- Facts of rows: each says of operations where they are issued and what they read, so that it is seen that the rows aren't
-- issued as their block asks for.
use Rattle.std.specs.Prelude.{ℕ, zero, suc, ◌≡◌, ◌≢◌, ◌<◌, ◌≤◌, ◌||◌, ◌⊎◌, List, [], ◌∷◌, length, map, take, Option, Some, None, Contains, IsTrue}
use Rattle.iloc_ops.specs.declared.op.Reg.{Reg}
use Rattle.iloc_ops.specs.declared.op.Op.{Op}
use Rattle.iloc_ops.specs.Registers.{used, defined}
use Rattle.iloc_meaning.specs.Trace.{op_at}
use Rattle.iloc_timed.specs.declared.latencies.Latencies.{Latencies}
use Rattle.iloc_timed.specs.declared.row.Row.{Row}
use Rattle.iloc_timed.specs.Kinds.{kind}
use Rattle.iloc_timed.specs.Rows.{issue_cycle}
use Rattle.iloc_rules.specs.Delays.{keeps_order}
use Rattle.iloc_facts.specs.declared.lawfulness.Issue.{Issue}
use Rattle.iloc_facts.specs.Readings.{due, given, read}
use Rattle.iloc_facts.specs.Labels.{label}
use Rattle.iloc_facts.specs.Counts.{count_like}
use Rattle.iloc_facts.specs.Lawfulness.{issue_of}
use Rattle.iloc_facts.specs.UnderWay.{IsUnderWay}
use Rattle.iloc_facts.specs.declared.fact.Fact.{Fact}
use Rattle.iloc_facts.specs.declared.fact.Fact.TheVariants.{UnderWay, Brings, Replaced, NeverRead, Order, For, LikeNone, See}

-- operation k of the rows, in its row
pub record IsIssued (ops : List Op) (rows : List Row) (k : ℕ) (issue : Issue) : Type 0 where
  pub within : k < length ops
  pub is : issue ≡ issue_of ops rows k

-- a load or an output is issued while a store is under way
pub record IsWhileUnderWay (lat : Latencies) (ops : List Op) (rows : List Row) (issue store : Issue) (over : ℕ) : Type 0 where
  pub k : ℕ
  pub s : ℕ
  pub here : IsIssued ops rows k issue
  pub there : IsIssued ops rows s store
  pub under_way : IsUnderWay lat ops rows k s
  pub until : over ≡ due lat ops rows s

-- an operation reads a register for which another's result is under way
pub record IsBroughtLater (lat : Latencies) (ops : List Op) (rows : List Row) (issue : Issue) (register : Reg) (late : Issue)
    (arrives : ℕ) : Type 0 where
  pub k : ℕ
  pub l : ℕ
  pub here : IsIssued ops rows k issue
  pub there : IsIssued ops rows l late
  pub another : l ≢ k
  pub uses : Contains (used issue.op) register
  pub defines : defined late.op ≡ Some register
  pub begun : late.cycle ≤ issue.cycle
  pub not_there : issue.cycle < arrives
  pub when : arrives ≡ due lat ops rows l

-- by cycle c a register was as it was at the start, and had the result of an operation other than j
abbrev pub HasBeenThere : Latencies → List Op → List Row → ℕ → Reg → ℕ → Option Issue → Type 0
HasBeenThere lat ops rows c register j None = Unit
HasBeenThere lat ops rows c register j (Some lost) = (l : ℕ) × IsIssued ops rows l lost × (l ≢ j)
    × (defined lost.op ≡ Some register) × (due lat ops rows l ≤ c)

-- an operation reads in a register a result that came over what was there
pub record IsReplaced (lat : Latencies) (ops : List Op) (rows : List Row) (issue : Issue) (register : Reg) (from : Issue)
    (lost : Option Issue) : Type 0 where
  pub k : ℕ
  pub j : ℕ
  pub here : IsIssued ops rows k issue
  pub uses : Contains (used issue.op) register
  pub reads : read lat ops rows issue.cycle register ≡ Some j
  pub there : IsIssued ops rows j from
  pub before : HasBeenThere lat ops rows issue.cycle register j lost

-- no operation reads the result of one that defines a register
pub record IsNeverRead (lat : Latencies) (ops : List Op) (rows : List Row) (issue : Issue) : Type 0 where
  pub j : ℕ
  pub here : IsIssued ops rows j issue
  pub register : Reg
  pub defines : defined issue.op ≡ Some register
  pub by_none : (k : ℕ) → k < length ops → (r : Reg) → Contains (used (op_at ops k)) r
      → read lat ops rows (issue_cycle rows k) r ≢ Some j

-- operation i of the block differs from one in registers alone
abbrev pub HasLabel : List Op → ℕ → Op → Type 0
HasLabel block i op = (i < length block) × (label (op_at block i) ≡ label op)

-- operations `i` and `o` of the block aren't in the order of two that are issued in cycles `c` and `d`: the one in `c`
-- is to come later, or else before
abbrev pub AreAgainst : ℕ → ℕ → ℕ → ℕ → Type 0
AreAgainst i o c d = ((o < i) × (c ≤ d)) ⊎ ((i < o) × (d < c))

-- Alike operations

-- both are the start of a register, or results of operations of which this holds
abbrev pub AreSources : (ℕ → ℕ → Type 0) → Option ℕ → Option ℕ → Type 0
AreSources Alike None None = Unit
AreSources Alike (Some i) (Some k) = Alike i k
AreSources Alike _ _ = ⊥

-- so are they one by one
abbrev pub AreAllSources : (ℕ → ℕ → Type 0) → List (Option ℕ) → List (Option ℕ) → Type 0
AreAllSources Alike [] [] = Unit
AreAllSources Alike (s ∷ ss) (t ∷ ts) = AreSources Alike s t × AreAllSources Alike ss ts
AreAllSources Alike _ _ = ⊥

-- Operation `i` of the block and operation `k` of the rows are alike to a depth: all are to depth 0, and to depth `n +
-- 1` two of one label whose sources are both the start, or alike to depth `n`.
abbrev pub AreAlike : Latencies → List Op → List Op → List Row → ℕ → ℕ → ℕ → Type 0
AreAlike lat block ops rows zero i k = Unit
AreAlike lat block ops rows (suc n) i k = (label (op_at block i) ≡ label (op_at ops k))
    × AreAllSources (AreAlike lat block ops rows n) (map (given block i) (used (op_at block i)))
    (map (read lat ops rows (issue_cycle rows k)) (used (op_at ops k)))

-- to some depth they aren't
abbrev pub AreUnlike : Latencies → List Op → List Op → List Row → ℕ → ℕ → Type 0
AreUnlike lat block ops rows i k = (depth : ℕ) × (AreAlike lat block ops rows depth i k → ⊥)

-- two operations of which memory or outputs fix the order aren't in the order that two of their labels have in the block, of
-- which neither is like the other one's
pub record IsOrdered (lat : Latencies) (block ops : List Op) (rows : List Row) (issue other : Issue) : Type 0 where
  pub k : ℕ
  pub j : ℕ
  pub here : IsIssued ops rows k issue
  pub there : IsIssued ops rows j other
  pub another : j ≢ k
  pub fixed : IsTrue (keeps_order (kind issue.op) (kind other.op) || keeps_order (kind other.op) (kind issue.op))
  pub i : ℕ
  pub o : ℕ
  pub own : HasLabel block i issue.op
  pub others : HasLabel block o other.op
  pub against : AreAgainst i o issue.cycle other.cycle
  pub not_others : AreUnlike lat block ops rows o k
  pub not_own : AreUnlike lat block ops rows i j

-- an operation has the label of this one of the block, and isn't alike to it
pub record IsFor (lat : Latencies) (block ops : List Op) (rows : List Row) (issue : Issue) (number : ℕ) (op : Op) : Type 0 where
  pub k : ℕ
  pub here : IsIssued ops rows k issue
  pub there : HasLabel block number issue.op
  pub is : op ≡ op_at block number
  pub unlike : AreUnlike lat block ops rows number k

-- no operation of the block is alike to one
pub record IsLikeNone (lat : Latencies) (block ops : List Op) (rows : List Row) (issue : Issue) : Type 0 where
  pub k : ℕ
  pub here : IsIssued ops rows k issue
  pub none : (i : ℕ) → i < length block → AreUnlike lat block ops rows i k

-- Counterparts

-- operation i of the block is the counterpart of operation k of the rows: it has its label, and as many of that come before
abbrev pub IsCounterpart : List Op → List Op → ℕ → ℕ → Type 0
IsCounterpart block ops i k = HasLabel block i (op_at ops k)
    × (count_like (op_at block i) (take i block) ≡ count_like (op_at ops k) (take k ops))

-- an operation doesn't read what its counterpart in the block reads: not the results of the same operations,
-- counterpart by counterpart
pub record IsToBeSeen (lat : Latencies) (block ops : List Op) (rows : List Row) (issue : Issue) : Type 0 where
  pub k : ℕ
  pub i : ℕ
  pub here : IsIssued ops rows k issue
  pub there : IsCounterpart block ops i k
  pub otherwise : AreAllSources (IsCounterpart block ops) (map (given block i) (used (op_at block i)))
      (map (read lat ops rows (issue_cycle rows k)) (used (op_at ops k))) → ⊥

-- What is listed

-- this holds of the rows of a block, `nop`s left out
abbrev pub IsFact : Latencies → List Op → List Op → List Row → Fact → Type 0
IsFact lat block ops rows (UnderWay issue store due) = IsWhileUnderWay lat ops rows issue store due
IsFact lat block ops rows (Brings issue register late due) = IsBroughtLater lat ops rows issue register late due
IsFact lat block ops rows (Replaced issue register from lost) = IsReplaced lat ops rows issue register from lost
IsFact lat block ops rows (NeverRead issue) = IsNeverRead lat ops rows issue
IsFact lat block ops rows (Order issue other) = IsOrdered lat block ops rows issue other
IsFact lat block ops rows (For issue number op) = IsFor lat block ops rows issue number op
IsFact lat block ops rows (LikeNone issue) = IsLikeNone lat block ops rows issue
IsFact lat block ops rows (See issue) = IsToBeSeen lat block ops rows issue
