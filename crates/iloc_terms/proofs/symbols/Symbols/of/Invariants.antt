use Rattle.iloc_terms.proofs.Common.{issued_before, Adds}
use Rattle.iloc_terms.specs.Steps.Tracking.{Keeps}
use Rattle.iloc_terms.proofs.symbols.Symbols.of.Given as goal

abbrev pub invariant-loop-cycle : goal.invariant-loop-cycle
invariant-loop-cycle l = Adds l.fn.table l.table (λ memory d.
    Keeps memory d l.cycle (issued_before l.latencies memory l.schedule.ops l.schedule.rows l.cycle) l.symbols)
