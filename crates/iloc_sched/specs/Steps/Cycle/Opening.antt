-- What holds as a schedule begins.
use Rattle.std.specs.Prelude.{ℕ, ◌+◌, ◌-◌, ◌≡◌, ◌<◌, ◌≤◌, ◌==◌, true, length, map, replicate, slice_index, Option, None}
use Rattle.std.specs.List.{range_with_len}
use Rattle.iloc_sched.specs.declared.cycle.plan.Plan.{Plan}
use Rattle.iloc_sched.specs.declared.cycle.waiting.Waiting.{Waiting}
use Rattle.iloc_sched.specs.Steps.Cycle.Calendar.{has, HasRoom}
use Rattle.iloc_sched.specs.Steps.Views.{graph_of, issued_list, unmet_list, earliest_list}
use Rattle.iloc_sched.specs.Steps.Cycle.SoFar.{rank_of, IsRanked, KeepsOut}

abbrev pub not_issued : Option ℕ
not_issued = None

-- nothing is issued, the states of the operations before operation n are made, and who of them has no edge to wait for is
-- in the first bucket
pub record IsOpening (p : Plan) (w : Waiting) (n : ℕ) : Type 0 where
  pub issued : issued_list w ≡ replicate (length p.tables.now.edges.heads.items) not_issued
  pub unmet : unmet_list w ≡ map (λ j. slice_index p.tables.now.edges.starts.items (j + 1) - slice_index p.tables.now.edges.starts.items j) (range_with_len 0 n)
  pub earliest : earliest_list w ≡ replicate n 0
  pub room : HasRoom w.calendar (length p.tables.now.ops.items)
  pub kept : KeepsOut p n w.calendar
  pub short : p.short ≡ (w.calendar.blocks == 0)
  pub roots : (j : ℕ) → j < n
      → has w.calendar 0 (rank_of p j) ≡ ((graph_of p.tables.now.edges).start j == (graph_of p.tables.now.edges).start (j + 1))
  pub only : (s r : ℕ) → s ≤ 32 → has w.calendar s r ≡ true → (s ≡ 0) × IsRanked p n r
