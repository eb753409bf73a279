use Rattle.std.proofs.Common.{sym}
use Rattle.iloc_terms.proofs.Addresses.{bad_with}
use Rattle.iloc_terms.proofs.agreement.is_between_marked.Goals as goal

pub returns : goal.returns
returns c = λ yes those are.
    bad_with c.args.table.now c.args.marks.now those c.in-Some-Some.span.low c.in-Some-Some.span.high c.args.address are
    (sym c.if-not-is_marked.ensures) (sym c.if-not-is_marked-2.ensures) (c.is_within.ensures yes)
