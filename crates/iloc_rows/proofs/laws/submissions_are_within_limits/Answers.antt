use Rattle.iloc_rows.proofs.Within.{submissions_within}
use Rattle.iloc_rows.proofs.laws.submissions_are_within_limits.Goals as goal

pub returns : goal.returns
returns c = submissions_within
