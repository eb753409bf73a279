use Rattle.iloc_explain.proofs.Common.{◌≡◌, ℕ, ◌<◌, ◌≤◌, None, row_at}
use Rattle.iloc_explain.specs.Holding.{keeper}
use Rattle.iloc_explain.proofs.path.rows_with_room.Given as goal

abbrev pub invariant-loop-first : goal.invariant-loop-first
invariant-loop-first l = record {
  after : l.ready ≤ l.first;
  before : l.first < l.cycle;
  room : (b : ℕ) → l.first ≤ b → b < l.cycle → keeper l.schedule.ops (row_at l.schedule.rows b) l.j ≡ None;
}

abbrev pub decreases-loop-first : goal.decreases-loop-first
decreases-loop-first l = l.first
