use Rattle.iloc_text.proofs.Lines.{one_reading}
use Rattle.iloc_text.proofs.laws.lines_have_one_reading.Goals as goal

pub returns : goal.returns
returns c = one_reading
