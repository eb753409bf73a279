use Rattle.std.proofs.Common.{refl, sym}
use Rattle.iloc_lint.proofs.Counted.{none_counted, none_last}
use Rattle.iloc_lint.proofs.faults.counts.Counts.none.Goals as goal

pub returns : goal.returns
returns c = record { blocks = sym none_counted; last = sym none_last; ops = refl }
