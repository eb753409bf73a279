use Rattle.iloc_terms.proofs.table.Table.+put_within.Given as goal

abbrev pub decreases-put_within : goal.decreases-put_within
decreases-put_within l = l.bits
