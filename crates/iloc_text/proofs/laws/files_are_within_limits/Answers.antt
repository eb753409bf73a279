use Rattle.iloc_text.proofs.Within.{files_within}
use Rattle.iloc_text.proofs.laws.files_are_within_limits.Goals as goal

pub returns : goal.returns
returns c = files_within
