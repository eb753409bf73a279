use Rattle.iloc_terms.proofs.Common.{List, Issued, Adds}
use Rattle.iloc_terms.specs.Steps.Tracking.{Keeps}
use Rattle.iloc_terms.proofs.symbols.Symbols.land_rest.Given as goal

abbrev pub invariant-loop-cycle : goal.invariant-loop-cycle
invariant-loop-cycle l = Adds l.initial.table l.table (λ memory d. (log : List Issued) →
    Keeps memory d l.fn.from log l.initial.self → Keeps memory d l.cycle log l.self)
