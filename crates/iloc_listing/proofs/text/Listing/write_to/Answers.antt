use Rattle.iloc_listing.proofs.Common.{[], ◌++◌, sym, refl, ap, ◌∙◌, subst, append-nil, arith, drop_all, on_err_weaker, on_ok_weaker, Appends, flat_map, WritesFront}
use Rattle.iloc_listing.proofs.Joining.{buffer_failed, buffer_written, none_joined, part_failed, part_joined}
use Rattle.iloc_listing.proofs.Written.{next_entry, on_err}
use Rattle.iloc_listing.proofs.text.Listing.write_to.Goals as goal

pub loop-entry-init : goal.loop-entry-init
loop-entry-init g c =
    none_joined _ _ _ _ _ c.clear.ensures.items
    (ap (λ es. flat_map (λ e. e.text) es ++ c.self.inside.ending.items) c.deref-entry-items.ensures.value ∙ c.self.view_is)

pub loop-entry-preserved : goal.loop-entry-preserved
loop-entry-preserved g c =
    let entries = c.deref-entry-items.result.now in
    let i = c.loop-entry.entry-index in
    part_joined _ _ _ _ _ _ c.loop-entry.invariant c.entry-item.result.text _
    (next_entry (λ e. e.text) entries i c.entry-item.result _ (omega arith) c.entry-item.is) _ _ c.in_ok-write_to.ensures.ok

pub returns-in_err-write_to-clause-err : goal.returns-in_err-write_to-clause-err
returns-in_err-write_to-clause-err g c =
    let entries = c.deref-entry-items.result.now in
    let i = c.loop-entry.entry-index in
    on_err c.from_residual.result
    (part_failed _ _ _ _ _ _ c.loop-entry.invariant c.entry-item.result.text _
    (next_entry (λ e. e.text) entries i c.entry-item.result _ (omega arith) c.entry-item.is) _ c.in_err-write_to.ensures.err)

pub returns-in_err-write_joined-clause-err : goal.returns-in_err-write_joined-clause-err
returns-in_err-write_joined-clause-err g c =
    let ending = c.deref.result.now in
    let left = ap (λ es. flat_map (λ e. e.text) es ++ c.self.inside.ending.items)
    (drop_all c.loop-entry.entry-index c.deref-entry-items.result.now (omega arith))
    ∙ (sym c.deref.ensures.value ∙ sym (append-nil ending)) in
    on_err c.from_residual-in_err-write_joined.result
    (part_failed _ _ _ _ _ _ c.loop-entry.invariant ending [] left _ c.in_err-write_joined.ensures.err)

pub returns-clause-ok : goal.returns-clause-ok
returns-clause-ok g c =
    let ending = c.deref.result.now in
    let left = ap (λ es. flat_map (λ e. e.text) es ++ c.self.inside.ending.items)
    (drop_all c.loop-entry.entry-index c.deref-entry-items.result.now (omega arith))
    ∙ (sym c.deref.ensures.value ∙ sym (append-nil ending)) in
    let all = part_joined _ _ _ _ _ _ c.loop-entry.invariant ending [] left _ _ c.in_ok-write_joined.ensures.ok in
    on_ok_weaker c.write_text.result
    (λ wrote. buffer_written _ _ _ _ _ _ all refl _ (subst (Appends _ _) c.deref-2.ensures.value wrote))
    c.write_text.ensures.ok

pub returns-clause-err : goal.returns-clause-err
returns-clause-err g c =
    let ending = c.deref.result.now in
    let left = ap (λ es. flat_map (λ e. e.text) es ++ c.self.inside.ending.items)
    (drop_all c.loop-entry.entry-index c.deref-entry-items.result.now (omega arith))
    ∙ (sym c.deref.ensures.value ∙ sym (append-nil ending)) in
    let all = part_joined _ _ _ _ _ _ c.loop-entry.invariant ending [] left _ _ c.in_ok-write_joined.ensures.ok in
    on_err_weaker c.write_text.result
    (λ wrote. buffer_failed _ _ _ _ _ _ all _ (subst (WritesFront _ _) c.deref-2.ensures.value wrote))
    c.write_text.ensures.err
