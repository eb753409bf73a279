use Rattle.iloc_terms.proofs.table.Table.+multiple.Given as goal

abbrev pub decreases-multiple : goal.decreases-multiple
decreases-multiple l = l.most
