use Rattle.iloc_lint.proofs.Readers.{no_faults}
use Rattle.iloc_lint.proofs.laws.no_faults_mean_a_file.Goals as goal

pub returns : goal.returns
returns c = no_faults
