use Rattle.iloc_farm.proofs.TheLeast.{takes_the_least}
use Rattle.iloc_farm.proofs.laws.by_the_book_takes_the_least.Goals as goal

pub returns : goal.returns
returns c = takes_the_least
