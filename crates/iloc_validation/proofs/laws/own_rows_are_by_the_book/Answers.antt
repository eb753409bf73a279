use Rattle.iloc_validation.proofs.SameIssues.{own_by_the_book}
use Rattle.iloc_validation.proofs.laws.own_rows_are_by_the_book.Goals as goal

pub returns : goal.returns
returns c = own_by_the_book
