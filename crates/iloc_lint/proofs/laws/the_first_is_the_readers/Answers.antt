use Rattle.iloc_lint.proofs.Readers.{first_fault}
use Rattle.iloc_lint.proofs.laws.the_first_is_the_readers.Goals as goal

pub returns : goal.returns
returns c = first_fault
