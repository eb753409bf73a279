use Rattle.iloc_terms.proofs.table.Table.+less_within.Given as goal

abbrev pub decreases-less_within : goal.decreases-less_within
decreases-less_within l = l.bits
