use Rattle.iloc_rules.specs.Renaming.{without_nops}
use Rattle.iloc_validation.proofs.UnderWayExcludes.{none_under_way}
use Rattle.iloc_validation.proofs.laws.what_is_under_way_excludes_by_the_book.Goals as goal

pub returns : goal.returns
returns c = λ lat block ops rows k s here there under_way by.
    none_under_way lat (without_nops block) ops rows by.0 by.1 by.2 k s here there under_way
