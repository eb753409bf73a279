use Rattle.iloc_sched.proofs.Common.{◌≡◌, ℕ, ◌+◌, ◌-◌, ◌≤◌, List, [], length, row_at, slots, Row, HasTaken, IsUnderWay, waiting_count}
use Rattle.iloc_sched.proofs.scheduler.fill_rows.Given as goal

abbrev pub invariant-loop-left : goal.invariant-loop-left
invariant-loop-left g l = record {
  same : l.known ≡ l.plan;
  taken : (rows : List Row) × HasTaken g.T.TakeRows.took l.plan l.waiting l.fn.taker l.taker l.cycle rows
      × (l.left ≡ 0 → (c : ℕ) → length rows ≡ c + 1 → slots (row_at rows c) ≡ [] → ⊥);
  kept : g.T.TakeRows.kept l.taker ≡ g.T.TakeRows.kept l.fn.taker;
  under_way : IsUnderWay l.plan l.waiting l.cycle;
  left : l.left ≡ waiting_count l.waiting;
  few : l.cycle ≤ 160001;
}

abbrev pub decreases-loop-left : goal.decreases-loop-left
decreases-loop-left g l = 160002 - l.cycle
