use Rattle.iloc_rows.proofs.Every.{an_answer}
use Rattle.iloc_rows.proofs.laws.texts_have_an_answer.Goals as goal

pub returns : goal.returns
returns c = an_answer
