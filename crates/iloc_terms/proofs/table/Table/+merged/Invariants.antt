use Rattle.iloc_terms.proofs.table.Table.+merged.Given as goal

abbrev pub decreases-merged : goal.decreases-merged
decreases-merged l = l.most
