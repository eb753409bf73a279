use Rattle.iloc_meaning.specs.MachineState.{Follows}
use Rattle.iloc_meaning.specs.Trace.{before}
use Rattle.iloc_fault.proofs.finder.first_fault.Given as goal

abbrev pub invariant-loop-operation : goal.invariant-loop-operation
invariant-loop-operation l = Follows l.fn.state.memory.first (before l.fn.state.memory.first l.ops l.operation) l.state
