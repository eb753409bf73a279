-- Which rows are a schedule of a block by the book, whatever registers they name: each operation of the block is issued
-- once, reads the results that it reads in the block, and waits for what memory and outputs make it wait for.
use Rattle.std.specs.Prelude.{ℕ, ◌+◌, ◌≡◌, ◌<◌, ◌≤◌, List, length, map, Option, option_map, Contains}
use Rattle.iloc_ops.specs.declared.op.Op.{Op}
use Rattle.iloc_ops.specs.Registers.{used}
use Rattle.iloc_meaning.specs.Trace.{op_at}
use Rattle.iloc_timed.specs.declared.latencies.Latencies.{Latencies}
use Rattle.iloc_timed.specs.declared.row.Row.{Row}
use Rattle.iloc_timed.specs.Rows.{issue_cycle, IsTable}
use Rattle.iloc_rules.specs.Delays.{memory_delays}
use Rattle.iloc_rules.specs.Renaming.{without_nops}
use Rattle.iloc_facts.specs.Labels.{label}
use Rattle.iloc_facts.specs.Readings.{given, read}

-- Which operations are one

-- Each operation k of the rows is operation `origin k` of the block, and operation i of the block is operation
-- `partner i` of the rows; they differ in registers alone.
pub record ArePaired (block ops : List Op) (origin partner : ℕ → ℕ) : Type 0 where
  pub there : (k : ℕ) → k < length ops → origin k < length block
  pub back : (k : ℕ) → k < length ops → partner (origin k) ≡ k
  pub there_too : (i : ℕ) → i < length block → partner i < length ops
  pub back_too : (i : ℕ) → i < length block → origin (partner i) ≡ i
  pub labels : (k : ℕ) → k < length ops → label (op_at ops k) ≡ label (op_at block (origin k))

-- What is kept

-- each operation reads, in each of its registers, the result that it reads in the block
abbrev pub ReadAsGiven : Latencies → List Op → List Op → List Row → (ℕ → ℕ) → Type 0
ReadAsGiven lat block ops rows origin = (k : ℕ) → k < length ops
    → map (λ r. option_map origin (read lat ops rows (issue_cycle rows k) r)) (used (op_at ops k))
    ≡ map (given block (origin k)) (used (op_at block (origin k)))

-- what memory and outputs make an operation of the block wait for is waited for
abbrev pub WaitForMemory : Latencies → List Op → List Op → List Row → (ℕ → ℕ) → Type 0
WaitForMemory lat block ops rows partner = (i j d : ℕ) → i < j → j < length block
    → Contains (memory_delays lat (op_at block i) (op_at block j)) d
    → issue_cycle rows (partner i) + d ≤ issue_cycle rows (partner j)

-- under this pairing the rows keep what the block asks for
pub record IsScheduleUnder (lat : Latencies) (block ops : List Op) (rows : List Row) (origin partner : ℕ → ℕ) : Type 0 where
  pub table : IsTable ops rows
  pub paired : ArePaired block ops origin partner
  pub reads : ReadAsGiven lat block ops rows origin
  pub waits : WaitForMemory lat block ops rows partner

-- these operations in these rows are a schedule of the block by the book: under some pairing with its operations, `nop`s
-- left out, they keep what it asks for
abbrev pub IsByTheBook : Latencies → List Op → List Op → List Row → Type 0
IsByTheBook lat block ops rows =
    (origin : ℕ → ℕ) × (partner : ℕ → ℕ) × IsScheduleUnder lat (without_nops block) ops rows origin partner

-- Rows in other words

-- the operations that a row issues, on unit 0 and on unit 1
abbrev pub issued_in : List Op → Row → Option Op × Option Op
issued_in ops row = (option_map (op_at ops) row.zero, option_map (op_at ops) row.one)

-- in each cycle they issue the same operations on the same units, whatever their numbers are
abbrev pub IssueTheSame : List Op → List Row → List Op → List Row → Type 0
IssueTheSame ops rows ops' rows' = map (issued_in ops) rows ≡ map (issued_in ops') rows'
