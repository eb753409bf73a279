use Rattle.iloc_terms.proofs.table.Table.+narrowed.Given as goal

abbrev pub decreases-narrowed : goal.decreases-narrowed
decreases-narrowed l = l.epochs
