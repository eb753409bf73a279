use Rattle.iloc_validation.proofs.Common.{length, IfSome, refl, ap, ◌∙◌, subst, ArePassed, IsOrderOf, Coloured}
use Rattle.iloc_validation.proofs.KeptColours.{none_coloured, all_coloured}
use Rattle.iloc_validation.proofs.colours.kept_colours.Goals as goal

pub returns-in-Some-2 : goal.returns-in-Some-2
returns-in-Some-2 c =
    let sides = c.args.sides.now in
    let start : Coloured = record { here = c.args.here; there = c.in_ok-by_number.field-0 } in
    let new : Coloured = record { here = c.in-Some-2.last.here; there = c.in_ok-by_number-in-Some-2.field-0 } in
    all_coloured sides c.in-Some.order
    (subst (λ o. IfSome o (IsOrderOf sides.readings.items)) c.in-Some.is
    (rw c.deref.ensures.value at c.in_ok-order.ensures))
    c.args.here.items c.args.there.items start refl
    (rw (c.deref-2.ensures.value, c.deref-3.ensures.value) at c.in_ok-by_number.ensures.each)
    c.in-Some-2.last new
    (subst (ArePassed sides.givens.items c.in-Some.order.sources.items start) c.in-Some-2.is
    (rw (c.deref-4.ensures.value, c.deref-5.ensures.value) at c.in_ok-last.ensures))
    refl
    (c.in_ok-by_number-in-Some-2.ensures.size ∙ ap length c.deref-in-Some-2-2.ensures.value)
    (rw (c.deref-in-Some-2.ensures.value, c.deref-in-Some-2-2.ensures.value) at c.in_ok-by_number-in-Some-2.ensures.each)

pub returns : goal.returns
returns c =
    let sides = c.args.sides.now in
    let start : Coloured = record { here = c.args.here; there = c.in_ok-by_number.field-0 } in
    none_coloured sides c.in-Some.order
    (subst (λ o. IfSome o (IsOrderOf sides.readings.items)) c.in-Some.is
    (rw c.deref.ensures.value at c.in_ok-order.ensures))
    c.args.here.items c.args.there.items start refl
    (rw (c.deref-2.ensures.value, c.deref-3.ensures.value) at c.in_ok-by_number.ensures.each)
    (subst (ArePassed sides.givens.items c.in-Some.order.sources.items start) c.in-None.is
    (rw (c.deref-4.ensures.value, c.deref-5.ensures.value) at c.in_ok-last.ensures))
