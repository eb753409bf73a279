use Rattle.std.proofs.Common.{refl}
use Rattle.iloc_timed.proofs.Standing.{numbered_from}
use Rattle.iloc_verdict.proofs.checked.found.Goals as goal

pub cycles_of-requires-clause-numbered : goal.cycles_of-requires-clause-numbered
cycles_of-requires-clause-numbered c =
    rw (c.ops.ensures, c.rows.ensures.rows)
    (numbered_from c.args.proposal.now.ops c.args.proposal.now.rows c.rows.ensures.in_range c.rows.ensures.once)

pub returns : goal.returns
returns c =
    rw (c.cycles_of.ensures, c.ops.ensures, c.rows.ensures.rows, c.claimed.ensures) refl
