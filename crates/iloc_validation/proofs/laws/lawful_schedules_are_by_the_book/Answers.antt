use Rattle.iloc_validation.proofs.Lawful.{lawful_by_the_book}
use Rattle.iloc_validation.proofs.laws.lawful_schedules_are_by_the_book.Goals as goal

pub returns : goal.returns
returns c = lawful_by_the_book
