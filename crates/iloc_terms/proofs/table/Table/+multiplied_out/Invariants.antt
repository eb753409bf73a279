use Rattle.iloc_terms.proofs.table.Table.+multiplied_out.Given as goal

abbrev pub decreases-multiplied_out : goal.decreases-multiplied_out
decreases-multiplied_out l = l.most
