use Rattle.std.proofs.Common.{sym}
use Rattle.iloc_terms.proofs.Addresses.{bad_marked, never_bad}
use Rattle.iloc_terms.proofs.agreement.is_settled.Goals as goal

pub returns-then-is_marked : goal.returns-then-is_marked
returns-then-is_marked c = λ yes those are.
    bad_marked c.args.table.now c.args.marks.now those c.args.address are (sym c.if-is_marked.ensures)

pub returns-then-is_known : goal.returns-then-is_known
returns-then-is_known c = λ yes those are.
    never_bad c.args.table.now those c.args.address (c.is_known.ensures c.if-is_known.true)
