use Rattle.iloc_board.proofs.Common.{◌≡◌, take, final, replies}
use Rattle.iloc_board.specs.Steps.RunningCore.{Shows}
use Rattle.iloc_board.proofs.core_steps.play.Given as goal

-- the core and the replies are those of the steps so far
abbrev pub invariant-loop-step : goal.invariant-loop-step
invariant-loop-step l = record {
  same : l.core.count ≡ l.count;
  shows : Shows l.core.next l.core.costs.items l.core.states (final l.count (take l.step-index l.steps));
  told : l.replies.items ≡ replies l.count (take l.step-index l.steps);
}
