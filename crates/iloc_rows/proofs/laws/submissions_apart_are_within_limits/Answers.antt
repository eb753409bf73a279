use Rattle.iloc_rows.proofs.Within.{submissions_apart_within}
use Rattle.iloc_rows.proofs.laws.submissions_apart_are_within_limits.Goals as goal

pub returns : goal.returns
returns c = submissions_apart_within
