use Rattle.iloc_optimum.specs.Steps.Covered.{IsCovered}
use Rattle.iloc_optimum.proofs.search.search_windows.Given as goal

abbrev pub invariant-loop : goal.invariant-loop
invariant-loop l = IsCovered l.edges l.kinds l.fn.root l.stack.items
