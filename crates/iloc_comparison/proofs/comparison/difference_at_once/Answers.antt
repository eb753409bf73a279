use Rattle.std.specs.Prelude.{Option, None, Some, MatchOption, IfSome}
use Rattle.iloc_timed.proofs.WholeRuns.{if_ok}
use Rattle.iloc_comparison.specs.declared.difference.Difference.{Difference}
use Rattle.iloc_comparison.proofs.comparison.difference_at_once.Goals as goal

-- what is found is there
found_there : (A : Type 0) (P : Difference → Type 0) (found : Option Difference) → MatchOption found A P → IfSome found P
found_there A P None says = tt
found_there A P (Some difference) says = says

pub returns : goal.returns
returns c = rw c.in_ok-copy.ensures.equal at
    (if_ok _ _ c.difference_on.result (λ found says. found_there _ _ found says) c.difference_on.ensures)
