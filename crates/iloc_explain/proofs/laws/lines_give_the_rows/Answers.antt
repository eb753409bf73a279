use Rattle.iloc_explain.proofs.TakenRows as texts
use Rattle.iloc_explain.proofs.laws.lines_give_the_rows.Goals as goal

pub returns : goal.returns
returns c = texts.lines_give_the_rows
