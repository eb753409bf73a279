use Rattle.iloc_rows.proofs.Answer.{one_apart}
use Rattle.iloc_rows.proofs.laws.texts_apart_have_one_answer.Goals as goal

pub returns : goal.returns
returns c = one_apart
