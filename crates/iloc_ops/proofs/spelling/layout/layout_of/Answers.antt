use Rattle.iloc_ops.proofs.Layouts.{laid_out_as_spelled}
use Rattle.iloc_ops.proofs.spelling.layout.layout_of.Goals as goal

pub returns-clause-text : goal.returns-clause-text
returns-clause-text c = rw c.form_of.ensures.opcode (laid_out_as_spelled c.args.op.now _)
