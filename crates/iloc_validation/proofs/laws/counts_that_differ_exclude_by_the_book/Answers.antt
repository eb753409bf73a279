use Rattle.iloc_validation.proofs.Common.{sym, without_nops}
use Rattle.iloc_validation.proofs.PairedCounts.{paired_counts}
use Rattle.iloc_validation.proofs.laws.counts_that_differ_exclude_by_the_book.Goals as goal

pub returns : goal.returns
returns c = λ lat block ops rows op differ by.
    differ (sym (paired_counts (without_nops block) ops by.0 by.1 by.2.paired op))
