-- Which operation of the block each of somebody's rows is, beside the verdict on them.
use Rattle.std.specs.Prelude.{ℕ, ◌≡◌, ◌<◌, List, length, Option, Some}
use Rattle.iloc_ops.specs.declared.op.Op.{Op}
use Rattle.iloc_timed.specs.declared.latencies.Latencies.{Latencies}
use Rattle.iloc_timed.specs.declared.row.Row.{Row}
use Rattle.iloc_rules.specs.Renaming.{without_nops}
use Rattle.iloc_validation.specs.ByTheBook.{IsScheduleUnder}
use Rattle.iloc_reasons.specs.Origins.{origin_at, AreOrigins}
use Rattle.iloc_verdict.specs.declared.verdict.Verdict.{Verdict}
use Rattle.iloc_verdict.specs.declared.verdict.Verdict.TheVariants.{Refused, Lawful, Unlawful, Undecided}

-- under some pairing the rows are a schedule of the block by the book, and of each operation it is noted which one it is paired
-- with
pub record AreOriginsByTheBook (lat : Latencies) (block ops : List Op) (rows : List Row) (origins : List (Option ℕ)) : Type 0
  where
    pub origin : ℕ → ℕ
    pub partner : ℕ → ℕ
    pub under : IsScheduleUnder lat block ops rows origin partner
    pub size : length origins ≡ length ops
    pub each : (k : ℕ) → k < length ops → origin_at origins k ≡ Some (origin k)

-- Which operation of the block each of the rows is, by their verdict: by a pairing that makes them a schedule by the book; else
-- where it can be no other. Of rows that are no schedule nothing is noted.
abbrev pub AreOriginsFor : Latencies → List Op → List Op → List Row → Verdict → List (Option ℕ) → Type 0
AreOriginsFor lat block ops rows (Refused obstacle changes) origins = length origins ≡ 0
AreOriginsFor lat block ops rows Lawful origins = AreOriginsByTheBook lat (without_nops block) ops rows origins
AreOriginsFor lat block ops rows (Unlawful reasons found) origins = AreOrigins lat (without_nops block) ops rows origins
AreOriginsFor lat block ops rows (Undecided found) origins = AreOrigins lat (without_nops block) ops rows origins
