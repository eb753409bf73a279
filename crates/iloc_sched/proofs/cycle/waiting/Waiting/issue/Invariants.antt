use Rattle.iloc_sched.proofs.Common.{◌≡◌, ℕ, slice_set, Some, has, KeepsPlaces, Walks, edges_left, IsCalendar, IsSized, graph_of, issued_list, progress_of}
use Rattle.iloc_sched.proofs.cycle.waiting.Waiting.issue.Given as goal

abbrev pub invariant-loop-at : goal.invariant-loop-at
invariant-loop-at l = record {
  walks : Walks (graph_of l.plan.tables.now.edges) (progress_of l.plan.ranks.now l.self) l.cycle l.at;
  issued : issued_list l.self ≡ slice_set (issued_list l.fn.self) l.i (Some l.cycle);
  keeps : KeepsPlaces (progress_of l.plan.ranks.now l.fn.self) (progress_of l.plan.ranks.now l.self);
  sized : IsSized l.plan.tables.now.edges l.self;
  calendar : IsCalendar l.plan l.self.calendar;
  ready : (r : ℕ) → has l.self.calendar 32 r ≡ has l.fn.self.calendar 32 r;
}

abbrev pub decreases-loop-at : goal.decreases-loop-at
decreases-loop-at l = edges_left l.at
