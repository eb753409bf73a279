use Rattle.iloc_validation.proofs.Common.{Some, None, sym, ◌∙◌, subst, true≢false, ArePassed}
use Rattle.iloc_validation.proofs.PassedColours.{differing, then_passed}
use Rattle.iloc_validation.proofs.colours.all_passed.Goals as goal

pub returns-then-not-have_one_sum : goal.returns-then-not-have_one_sum
returns-then-not-have_one_sum c =
    differing c.args.block.now c.args.rows.now c.args.colours c.requires.here c.requires.there
    (λ one. true≢false (sym (c.have_one_sum.ensures.1 one) ∙ c.if-not-have_one_sum.true))

pub returns-in-None : goal.returns-in-None
returns-in-None c =
    then_passed c.args.block.now c.args.rows.now c.args.colours c.loop.last None c.loop.invariant
    (subst (ArePassed c.args.block.now c.args.rows.now c.loop.last) c.in-None.is c.in_ok-next.ensures)

pub loop-preserved : goal.loop-preserved
loop-preserved c =
    then_passed c.args.block.now c.args.rows.now c.args.colours c.loop.last (Some c.in-Some.next) c.loop.invariant
    (subst (ArePassed c.args.block.now c.args.rows.now c.loop.last) c.in-Some.is c.in_ok-next.ensures)
