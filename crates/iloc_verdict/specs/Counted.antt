-- Which verdicts can be listed: outputs are counted from 1.
use Rattle.std.specs.Prelude.{◌+◌, ◌<◌, ◌^◌, List}
use Rattle.iloc_timed.specs.declared.row.Row.{Row}
use Rattle.iloc_comparison.specs.declared.comparison.Comparison.{Comparison}
use Rattle.iloc_comparison.specs.declared.comparison.Comparison.TheVariants as of
use Rattle.iloc_comparison.specs.declared.difference.Difference.{Difference}
use Rattle.iloc_comparison.specs.declared.difference.Difference.TheVariants.{Output}
use Rattle.iloc_verdict.specs.declared.verdict.Verdict.{Verdict}
use Rattle.iloc_verdict.specs.declared.verdict.Verdict.TheVariants.{Refused, Lawful, Unlawful, Undecided}
use Rattle.iloc_verdict.specs.Obstacle.{IsAmong}

-- the number of an output fits 64 bits
abbrev pub CanBeNumbered : Difference → Type 0
CanBeNumbered (Output index got wanted) = index + 1 < 2 ^ 64
CanBeNumbered _ = Unit {0}

abbrev pub CanBeCompared : Comparison → Type 0
CanBeCompared (of.Differs difference) = CanBeNumbered difference
CanBeCompared (of.DiffersOn probe difference) = CanBeNumbered difference
CanBeCompared _ = Unit {0}

-- a bad row is one of the rows, and the number of an output fits
abbrev pub CanBeListed : List Row → Verdict → Type 0
CanBeListed rows (Refused obstacle changes) = IsAmong rows obstacle
CanBeListed rows Lawful = Unit {0}
CanBeListed rows (Unlawful reasons found) = CanBeCompared found
CanBeListed rows (Undecided found) = CanBeCompared found
