use Rattle.iloc_terms.proofs.table.Table.+over_before.Given as goal

abbrev pub decreases-over_before : goal.decreases-over_before
decreases-over_before l = l.epochs
