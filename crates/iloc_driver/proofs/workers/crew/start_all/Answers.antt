use Rattle.iloc_driver.proofs.Common.{ap, ◌∙◌, All-rest}
use Rattle.iloc_driver.proofs.Routines as routines
use Rattle.iloc_driver.proofs.workers.crew.start_all.Goals as goal

pub loop-routine-preserved : goal.loop-routine-preserved
loop-routine-preserved g c = record {
  started = routines.started_more (λ h. h.promise.0.value) _ _ c.in-Ok.handle c.in-Some.routine _ _ _
      c.loop-routine.invariant.started c.in_ok-push.ensures.items c.in-Some.ensures.steps.0
      (ap (λ p. p.0.value) c.in-Ok.ensures.ok ∙ c.of.ensures);
  ready = All-rest g.T.Routine.can_run c.in-Some.routine _ _ c.in-Some.ensures.steps.0 c.loop-routine.invariant.ready;
}
