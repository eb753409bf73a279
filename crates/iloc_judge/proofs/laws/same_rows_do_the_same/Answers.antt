use Rattle.iloc_judge.proofs.Sameness as sameness
use Rattle.iloc_judge.proofs.laws.same_rows_do_the_same.Goals as goal

pub returns : goal.returns
returns c = sameness.same_rows_do_the_same
