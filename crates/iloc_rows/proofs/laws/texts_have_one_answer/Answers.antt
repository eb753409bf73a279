use Rattle.iloc_rows.proofs.Answer.{one_answer_each}
use Rattle.iloc_rows.proofs.laws.texts_have_one_answer.Goals as goal

pub returns : goal.returns
returns c = one_answer_each
