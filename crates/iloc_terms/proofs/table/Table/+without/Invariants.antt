use Rattle.iloc_terms.proofs.table.Table.+without.Given as goal

abbrev pub decreases-without : goal.decreases-without
decreases-without l = l.epochs
