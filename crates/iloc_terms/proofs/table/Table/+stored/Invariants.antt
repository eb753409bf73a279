use Rattle.iloc_terms.proofs.table.Table.+stored.Given as goal

abbrev pub decreases-stored : goal.decreases-stored
decreases-stored l = l.epochs
