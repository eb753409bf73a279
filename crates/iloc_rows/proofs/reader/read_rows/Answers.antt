use Rattle.iloc_rows.proofs.Common.{arith, IfErr-weaker, lines_few}
use Rattle.iloc_timed.proofs.WholeRuns.{if_ok}
use Rattle.iloc_rows.proofs.Reading.{proposed_apart, refused_apart}
use Rattle.iloc_rows.proofs.reader.read_rows.Goals as goal

pub read_proposals-requires : goal.read_proposals-requires
read_proposals-requires c = omega (arith, lines_few c.args.input.now, c.if-input-gt-MAX_INPUT.false)

pub returns-clause-ok : goal.returns-clause-ok
returns-clause-ok c = if_ok _ _ c.read_proposals.result (λ proposals propose.
    proposed_apart c.args.blocks.now c.args.input.now proposals c.if-input-gt-MAX_INPUT.false propose) c.read_proposals.ensures.ok

pub returns-clause-err : goal.returns-clause-err
returns-clause-err c = IfErr-weaker c.read_proposals.result _ _ (λ fault says memory.
    refused_apart c.args.blocks.now c.args.input.now fault c.if-input-gt-MAX_INPUT.false (says memory)) c.read_proposals.ensures.err
