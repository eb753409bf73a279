use Rattle.iloc_text.proofs.Answer.{one_answer}
use Rattle.iloc_text.proofs.laws.texts_have_one_answer.Goals as goal

pub returns : goal.returns
returns c = one_answer
