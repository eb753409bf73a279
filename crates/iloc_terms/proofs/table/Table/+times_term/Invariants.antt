use Rattle.iloc_terms.proofs.table.Table.+times_term.Given as goal

abbrev pub decreases-times_term : goal.decreases-times_term
decreases-times_term l = l.most
