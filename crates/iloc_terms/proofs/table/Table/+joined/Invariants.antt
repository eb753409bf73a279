use Rattle.iloc_terms.proofs.table.Table.+joined.Given as goal

abbrev pub decreases-joined : goal.decreases-joined
decreases-joined l = l.most
