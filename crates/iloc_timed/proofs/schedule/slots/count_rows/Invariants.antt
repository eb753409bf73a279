use Rattle.std.proofs.Common.{ℕ, ◌≡◌, ◌+◌, ◌<◌, min, length, slice_index, take}
use Rattle.iloc_timed.specs.Rows.{times_issued}
use Rattle.iloc_timed.proofs.schedule.slots.count_rows.Given as goal

abbrev pub invariant-loop-row : goal.invariant-loop-row
invariant-loop-row l = (i : ℕ) → i < length l.times
    → slice_index l.times i ≡ min 255 (slice_index l.initial.times i + times_issued (take l.row-index l.rows) i)
