use Rattle.iloc_validation.proofs.Outcomes.{keeps_the_outcome}
use Rattle.iloc_validation.proofs.laws.by_the_book_keeps_the_outcome.Goals as goal

pub returns : goal.returns
returns c = keeps_the_outcome
