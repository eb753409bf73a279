-- What holds of rows by the book.
use Rattle.std.specs.Prelude.{ℕ, ◌≡◌, ◌≢◌, ◌<◌, List, length, ℤ}
use Rattle.iloc_ops.specs.declared.op.Op.{Op}
use Rattle.iloc_meaning.specs.Outcome.{outcome}
use Rattle.iloc_timed.specs.declared.latencies.Latencies.{Latencies}
use Rattle.iloc_timed.specs.declared.row.Row.{Row}
use Rattle.iloc_timed.specs.Rows.{AreNumbered}
use Rattle.iloc_timed.specs.Timed.{timed_outcome}
use Rattle.iloc_rules.specs.Lawful.{IsLawful}
use Rattle.iloc_rules.specs.Renaming.{without_nops}
use Rattle.iloc_validation.specs.ByTheBook.{IsByTheBook, IssueTheSame}
use Rattle.iloc_facts.specs.Counts.{count_like}
use Rattle.iloc_facts.specs.UnderWay.{IsUnderWay}

-- on every memory they have the block's outcome
abbrev pub ByTheBookKeepsTheOutcome : Type 0
ByTheBookKeepsTheOutcome = (lat : Latencies) (block ops : List Op) (rows : List Row) (memory : List ℤ)
    → IsByTheBook lat block ops rows → timed_outcome lat ops rows memory ≡ outcome block memory

-- each lawful schedule is by the book
abbrev pub LawfulSchedulesAreByTheBook : Type 0
LawfulSchedulesAreByTheBook = (lat : Latencies) (block ops : List Op) (rows : List Row)
    → IsLawful lat block ops rows → IsByTheBook lat block ops rows

-- so are rows that issue the same, with other numbers for the operations
abbrev pub OwnRowsAreByTheBook : Type 0
OwnRowsAreByTheBook = (lat : Latencies) (block ops ops' : List Op) (rows rows' : List Row)
    → IsLawful lat block ops rows → AreNumbered ops' rows' → IssueTheSame ops rows ops' rows'
    → IsByTheBook lat block ops' rows'

-- rows of which labels don't count as the block's aren't by the book, in whatever order and whatever registers
abbrev pub CountsThatDifferExcludeByTheBook : Type 0
CountsThatDifferExcludeByTheBook = (lat : Latencies) (block ops : List Op) (rows : List Row) (op : Op)
    → count_like op ops ≢ count_like op (without_nops block) → IsByTheBook lat block ops rows → ⊥

-- nor are rows that issue a load or an output while a store is under way
abbrev pub WhatIsUnderWayExcludesByTheBook : Type 0
WhatIsUnderWayExcludesByTheBook = (lat : Latencies) (block ops : List Op) (rows : List Row) (k s : ℕ) → k < length ops
    → s < length ops → IsUnderWay lat ops rows k s → IsByTheBook lat block ops rows → ⊥
