use Rattle.iloc_terms.proofs.table.Table.+has_only.Given as goal

abbrev pub decreases-has_only : goal.decreases-has_only
decreases-has_only l = l.bits
