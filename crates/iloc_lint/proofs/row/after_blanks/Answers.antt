use Rattle.iloc_lint.proofs.Stopping.{after_all_blanks}
use Rattle.iloc_lint.proofs.row.after_blanks.Goals as goal

pub returns-clause-blanks : goal.returns-clause-blanks
returns-clause-blanks c = after_all_blanks c.args.bytes.now c.blanks_at.result c.blanks_at.ensures.count
