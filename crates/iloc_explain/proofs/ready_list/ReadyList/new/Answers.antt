use Rattle.iloc_explain.proofs.Common.{◌≡◌, length, IfSome, refl, subst, arith, slice_get_read, place_at}
use Rattle.iloc_explain.proofs.ReadyKept.{HasComing, kept_first, late_coming, one_coming}
use Rattle.iloc_explain.proofs.ready_list.ReadyList.new.Goals as goal
use Rattle.iloc_explain.proofs.ready_list.ReadyList.new.Goals.{then-own+in_ok-insert, else-own}

pub loop-j-preserved : goal.loop-j-preserved
loop-j-preserved c =
    let es = c.args.explained.now in
    let own = c.index-explained-j.result in
    let there = slice_get_read es (length es) c.loop-j.j own refl c.loop-j-test.true c.index-explained-j.is in
    elim c.if-own.branch [
      | then-own+in_ok-insert w ↦
          let at : w.place.result ≡ place_at own c.loop-j.j =
          subst (λ o. IfSome o (λ e. w.place.result ≡ place_at e c.loop-j.j)) there w.place.ensures in
          rw (w.coming-is, w.in_ok-insert.ensures.keys, at)
          (one_coming es c.loop-j.j own c.loop-j.coming.keys there w.if-own.true c.loop-j.invariant)
      | else-own w ↦
          rw w.coming-is (late_coming es c.loop-j.j own c.loop-j.coming.keys there (λ early. absurd (omega (arith, w.if-own.false, early)))
          c.loop-j.invariant)
    ]

pub returns : goal.returns
returns c =
    let es = c.args.explained.now in
    let size : c.loop-j.j ≡ length es = omega (arith, c.loop-j-test.false, c.loop-j.auto.j-end) in
    kept_first es _ c.new.ensures.empty (subst (λ n. HasComing es n c.loop-j.coming.keys) size c.loop-j.invariant)
