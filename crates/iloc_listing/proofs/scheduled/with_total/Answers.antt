use Rattle.iloc_listing.proofs.Common.{◌++◌, sum_by, sym, ap, ◌∙◌, sum-map, IfOk-weaker, flat_map, total_of}
use Rattle.iloc_listing.proofs.scheduled.with_total.Goals as goal

pub returns : goal.returns
returns c =
    let entries = c.args.entries.items in
    let total = c.cycles_of_all.ensures.sum
    ∙ (ap (sum_by (λ e. e.cycles)) c.deref.ensures.value ∙ sym (sum-map (λ e. e.cycles) entries)) in
    let ending = c.in_ok-push_total.ensures
    ∙ (ap (λ t. t ++ total_of c.cycles_of_all.result) c.new-ending.ensures.items ∙ ap total_of total) in
    IfOk-weaker c.of_entries.result _ _ (λ text is. is ∙ ap (λ t. flat_map (λ e. e.text) entries ++ t) ending)
    c.of_entries.ensures
