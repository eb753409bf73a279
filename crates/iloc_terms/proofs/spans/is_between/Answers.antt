use Rattle.iloc_terms.proofs.Common.{FitsSigned, w32, rules, ltb-true, to_z-of_z}
use Rattle.iloc_terms.proofs.Addresses.{good_between}
use Rattle.iloc_terms.proofs.spans.is_between.Goals as goal

pub returns-then-part-whole : goal.returns-then-part-whole
returns-then-part-whole c = λ small base.
    let low : FitsSigned w32 c.args.low = search rules in
    let middle : FitsSigned w32 c.args.constant = search rules in
    let high : FitsSigned w32 c.args.high = search rules in
    let lowest = to_z-of_z w32 c.args.low low in
    good_between base c.args.low c.args.constant c.args.high c.in-Some-Some.part c.in-Some-Some.whole
    (rw (to_z-of_z w32 c.args.constant middle, lowest) at c.in-Some-Some.ensures)
    (rw (to_z-of_z w32 c.args.high high, lowest) at c.in-Some-Some.ensures') c.if-part-whole.true.0
    c.if-part-whole.true.1 (ltb-true c.in-Some-Some.whole 65536 small)
