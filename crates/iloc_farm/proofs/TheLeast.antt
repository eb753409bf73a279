-- Rows by the book take no fewer cycles than the bound: `laws::by_the_book_takes_the_least`.
use Rattle.iloc_farm.proofs.Common.{◌≤◌, List, map, arith, Op, cycles, Latencies, least_bound}
use Rattle.iloc_timed.specs.declared.row.Row.{Row}
use Rattle.iloc_rules.specs.Renaming.{without_nops, renamed}
use Rattle.iloc_rules.proofs.Renamed.RenamedBlocks.{renamed_is_renamed}
use Rattle.iloc_rules.specs.Least.{least}
use Rattle.iloc_validation.specs.ByTheBook.{IsByTheBook}
use Rattle.iloc_validation.specs.OwnRows.{renumber}
use Rattle.iloc_validation.proofs.Outcomes.{own_cycles, own_lawful}

pub takes_the_least : (lat : Latencies) (block ops : List Op) (rows : List Row) → IsByTheBook lat block ops rows
    → least lat block ≤ cycles lat ops rows
takes_the_least lat block ops rows by =
    let bound : least lat block ≤ cycles lat (renamed block) (map (renumber by.0) rows) =
    least_bound lat block (renamed block) (map (renumber by.0) rows) (own_lawful lat block ops rows by) in
    let same : cycles lat (renamed block) (map (renumber by.0) rows) ≤ cycles lat ops rows =
    own_cycles lat (without_nops block) ops rows by.0 by.1 (renamed_is_renamed block) by.2 in
    omega arith
