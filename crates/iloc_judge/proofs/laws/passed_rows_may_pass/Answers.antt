use Rattle.iloc_judge.proofs.Sameness as sameness
use Rattle.iloc_judge.proofs.laws.passed_rows_may_pass.Goals as goal

pub returns : goal.returns
returns c = sameness.passed_rows_may_pass
