use Rattle.iloc_reasons.proofs.Common.{ℕ, ◌<◌, reading_at, IsNoted, source_at}
use Rattle.iloc_reasons.proofs.read.read_by_some.Given as goal

abbrev pub invariant-loop-k : goal.invariant-loop-k
invariant-loop-k l = (i : ℕ) → i < l.k → IsNoted l.read (source_at (reading_at l.readings i).sources 0)
    × IsNoted l.read (source_at (reading_at l.readings i).sources 1)
