use Rattle.iloc_validation.proofs.Common.{Some, None, sym, ◌∙◌, true≢false, ArePassedTo, Coloured}
use Rattle.iloc_validation.proofs.PassedColours.{differing, then_passed, forwards_passed, backwards_passed}
use Rattle.iloc_validation.proofs.colours.passed.Goals as goal

pub returns-then-not-have_one_sum : goal.returns-then-not-have_one_sum
returns-then-not-have_one_sum c =
    let block = c.args.block.now in
    let rows = c.args.rows.now in
    let read : Coloured = record { here = c.in_ok-forwards.field-0; there = c.in_ok-forwards-2.field-0 } in
    let first : ArePassedTo c.args.block.now c.args.rows.now c.args.colours.now read =
    forwards_passed block rows c.args.colours.now read c.in_ok-forwards.ensures.size c.in_ok-forwards-2.ensures.size
    (rw c.deref.ensures.value at c.in_ok-forwards.ensures.each) (rw c.deref-2.ensures.value at c.in_ok-forwards-2.ensures.each) in
    then_passed block rows c.args.colours.now read None first
    (differing block rows read c.in_ok-forwards.ensures.size c.in_ok-forwards-2.ensures.size
    (λ one. true≢false (sym (c.have_one_sum.ensures.1 one) ∙ c.if-not-have_one_sum.true)))

pub returns-then-have_one_sum : goal.returns-then-have_one_sum
returns-then-have_one_sum c =
    let block = c.args.block.now in
    let rows = c.args.rows.now in
    let read : Coloured = record { here = c.in_ok-forwards.field-0; there = c.in_ok-forwards-2.field-0 } in
    let heard : Coloured = record { here = c.in_ok-backwards.field-0; there = c.in_ok-backwards-2.field-0 } in
    let first : ArePassedTo c.args.block.now c.args.rows.now c.args.colours.now read =
    forwards_passed block rows c.args.colours.now read c.in_ok-forwards.ensures.size c.in_ok-forwards-2.ensures.size
    (rw c.deref.ensures.value at c.in_ok-forwards.ensures.each) (rw c.deref-2.ensures.value at c.in_ok-forwards-2.ensures.each) in
    let second : ArePassedTo c.args.block.now c.args.rows.now read heard =
    backwards_passed block rows read heard c.in_ok-backwards.ensures.size c.in_ok-backwards-2.ensures.size
    (rw c.deref-3.ensures.value at c.in_ok-backwards.ensures.each) (rw c.deref-4.ensures.value at c.in_ok-backwards-2.ensures.each) in
    then_passed block rows c.args.colours.now read (Some heard) first second

pub returns : goal.returns
returns c =
    let block = c.args.block.now in
    let rows = c.args.rows.now in
    let read : Coloured = record { here = c.in_ok-forwards.field-0; there = c.in_ok-forwards-2.field-0 } in
    let heard : Coloured = record { here = c.in_ok-backwards.field-0; there = c.in_ok-backwards-2.field-0 } in
    let first : ArePassedTo c.args.block.now c.args.rows.now c.args.colours.now read =
    forwards_passed block rows c.args.colours.now read c.in_ok-forwards.ensures.size c.in_ok-forwards-2.ensures.size
    (rw c.deref.ensures.value at c.in_ok-forwards.ensures.each) (rw c.deref-2.ensures.value at c.in_ok-forwards-2.ensures.each) in
    let second : ArePassedTo c.args.block.now c.args.rows.now read heard =
    backwards_passed block rows read heard c.in_ok-backwards.ensures.size c.in_ok-backwards-2.ensures.size
    (rw c.deref-3.ensures.value at c.in_ok-backwards.ensures.each) (rw c.deref-4.ensures.value at c.in_ok-backwards-2.ensures.each) in
    then_passed block rows c.args.colours.now read None first
    (then_passed block rows read heard None second
    (differing block rows heard c.in_ok-backwards.ensures.size c.in_ok-backwards-2.ensures.size
    (λ one. true≢false (sym (c.have_one_sum-2.ensures.1 one) ∙ c.if-have_one_sum.false))))
