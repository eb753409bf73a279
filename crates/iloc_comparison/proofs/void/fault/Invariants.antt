use Rattle.std.proofs.Common.{◌≡◌, ◌≢◌, ◌<◌, ◌≤◌, ◌-◌, length, take}
use Rattle.iloc_meaning.specs.Outcome.{outcome}
use Rattle.iloc_meaning.specs.declared.outcome.Outcome.TheVariants.{Fault}
use Rattle.iloc_comparison.proofs.void.fault.Given as goal

abbrev pub invariant-loop-finishing : goal.invariant-loop-finishing
invariant-loop-finishing l = record {
  memory : l.interpreter.memory ≡ l.memory;
  below : l.finishing < l.faulting;
  within : l.faulting ≤ length l.block.ops;
  finishes : outcome (take l.finishing l.block.ops) l.memory ≢ Fault;
  faults : outcome (take l.faulting l.block.ops) l.memory ≡ Fault;
  whole : outcome l.block.ops l.memory ≡ Fault;
}

abbrev pub decreases-loop-finishing : goal.decreases-loop-finishing
decreases-loop-finishing l = l.faulting - l.finishing
