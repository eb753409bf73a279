use Rattle.std.proofs.Common.{◌≡◌, List, ℤ}
use Rattle.iloc_timed.specs.Timed.{Issued}
use Rattle.iloc_timed.specs.Steps.Machine.{Follows}
use Rattle.iloc_timed.proofs.machine.Machine.land_rest.Given as goal

abbrev pub invariant-loop-cycle : goal.invariant-loop-cycle
invariant-loop-cycle l = (l.self.state.memory.first ≡ l.initial.self.state.memory.first)
    × ((memory : List ℤ) (log : List Issued) → Follows memory l.fn.from log l.initial.self
    → Follows memory l.cycle log l.self)
