use Rattle.iloc_rows.proofs.EitherSlot.{placed_within}
use Rattle.iloc_rows.proofs.laws.placed_rows_are_within_limits.Goals as goal

pub returns : goal.returns
returns c = placed_within
