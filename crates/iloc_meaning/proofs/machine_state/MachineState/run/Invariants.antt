use Rattle.iloc_meaning.specs.MachineState.{Follows}
use Rattle.iloc_meaning.specs.Trace.{before}
use Rattle.iloc_meaning.proofs.machine_state.MachineState.run.Given as goal

abbrev pub invariant-loop-op : goal.invariant-loop-op
invariant-loop-op l = Follows l.fn.self.memory.first (before l.fn.self.memory.first l.ops l.op-index) l.self
