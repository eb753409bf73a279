use Rattle.iloc_terms.proofs.table.Table.+removed_within.Given as goal

abbrev pub decreases-removed_within : goal.decreases-removed_within
decreases-removed_within l = l.bits
