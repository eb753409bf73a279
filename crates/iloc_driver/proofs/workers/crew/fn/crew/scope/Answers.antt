use Rattle.iloc_driver.proofs.Common.{◌≡◌, ℕ, ◌<◌, List, length, sym, ◌∙◌, subst, AllZip}
use Rattle.iloc_driver.proofs.Routines as routines
use Rattle.iloc_driver.proofs.workers.crew.fn.crew.scope.Goals as goal

pub returns : goal.returns
returns g c =
    let handles = c.in_ok-handles.handles in
    let given = c.in_ok-join_promised.field-0 in
    let long : length given.items ≡ length handles.items =
    sym given.ok.0 ∙ (c.in_ok-join_promised.ensures.len ∙ handles.ok.0) in
    let each = routines.kept_zip (λ h. h.promise.0.value) g.T.Routine.run_gives handles.items given.items long
    (λ i d lt. let k = (c.in_ok-join_promised.ensures.each i d
    (subst (λ (n : ℕ). i < n) (sym handles.ok.0) lt)).1 in (k.handle, k.handle_is, k.kept)) in
    subst (λ (t : List g.row.T.Denot). AllZip g.T.Routine.run_gives t given.items) c.in_ok-handles.ensures each
