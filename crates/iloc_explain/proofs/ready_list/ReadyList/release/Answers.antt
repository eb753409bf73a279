use Rattle.iloc_explain.proofs.Common.{refl, ap, Place}
use Rattle.std.specs.BTreeSet.{BTreeSet}
use Rattle.iloc_explain.proofs.ReadyKept.{kept_released}
use Rattle.iloc_explain.proofs.ready_list.ReadyList.release.Goals as goal

pub loop-place-preserved : goal.loop-place-preserved
loop-place-preserved c = λ es before.
    let popped = c.in-Some.ensures.popped in
    kept_released es c.args.cycle popped.cycle c.in-Some.place c.loop-place.self c.released.new.self _ (c.loop-place.invariant es before)
    popped.begun popped.first (ap (λ (s : BTreeSet Place). s.keys) c.in-Some.ensures.ready) c.in_ok-insert.ensures.keys refl
