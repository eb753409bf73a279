use Rattle.std.proofs.Common.{take}
use Rattle.iloc_terms.specs.Steps.Agreement.{BadThere}
use Rattle.iloc_terms.proofs.agreement.is_bad_there.Given as goal

abbrev pub invariant-loop-address : goal.invariant-loop-address
invariant-loop-address l = BadThere l.table (take l.address-index l.these) l.those
