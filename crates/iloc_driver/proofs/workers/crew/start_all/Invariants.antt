use Rattle.iloc_driver.proofs.Common.{◌≡◌, ◌++◌, map, All}
use Rattle.iloc_driver.proofs.workers.crew.start_all.Given as goal

abbrev pub invariant-loop-routine : goal.invariant-loop-routine
invariant-loop-routine g l = record {
  started : map (λ h. h.promise.0.value) l.handles.items ++ l.routine-iterator.rest.items ≡ l.fn.routines.items;
  ready : All g.T.Routine.can_run l.routine-iterator.rest.items;
}
