use Rattle.std.proofs.Common.{refl, ◌∙◌, append_assoc}
use Rattle.std.proofs.lemmas.Result.{on_ok_weaker}
use Rattle.iloc_verdict.proofs.json.reason.push_reasons.Goals as goal

pub returns : goal.returns
returns c =
    on_ok_weaker c.push_all.result
    (λ e. e ∙ rw (c.in_ok-push_facts.ensures, c.deref.ensures.value, c.in_ok-extend_from_slice.ensures.items, c.in_ok-push_changes.ensures)
    (simp append_assoc refl)) c.push_all.ensures
