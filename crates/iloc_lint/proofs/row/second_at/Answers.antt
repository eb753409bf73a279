use Rattle.std.proofs.Common.{rules}
use Rattle.iloc_lint.proofs.Begins.{left_after}
use Rattle.iloc_lint.proofs.row.second_at.Goals as goal

pub returns-in-Ok-clause-ok : goal.returns-in-Ok-clause-ok
returns-in-Ok-clause-ok c = (left_after c.args.bytes.now _ 1 c.in-Ok.ensures.ok, search rules)

pub returns-in-Err-clause-err : goal.returns-in-Err-clause-err
returns-in-Err-clause-err c = (left_after c.args.bytes.now _ 1 c.in-Err.ensures.err.0, c.in-Err.ensures.err.1)
