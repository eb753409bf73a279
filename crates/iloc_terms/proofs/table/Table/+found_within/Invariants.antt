use Rattle.iloc_terms.proofs.table.Table.+found_within.Given as goal

abbrev pub decreases-found_within : goal.decreases-found_within
decreases-found_within l = l.bits
