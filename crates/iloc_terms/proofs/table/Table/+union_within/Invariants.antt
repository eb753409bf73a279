use Rattle.iloc_terms.proofs.table.Table.+union_within.Given as goal

abbrev pub decreases-union_within : goal.decreases-union_within
decreases-union_within l = l.bits
