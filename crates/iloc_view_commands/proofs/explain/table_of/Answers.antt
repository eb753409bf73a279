use Rattle.iloc_view_commands.proofs.Common.{◌++◌, flat_map, ap, ap₂, ◌∙◌, IfOk-weaker}
use Rattle.std.proofs.lemmas.List.Concat.{flat_map-cons}
use Rattle.iloc_listing.specs.declared.text.ScheduleEntry.{ScheduleEntry}
use Rattle.iloc_view_commands.proofs.explain.table_of.Goals as goal

pub returns : goal.returns
returns c =
    let text_of = λ (e : ScheduleEntry). e.text in
    let rows = flat_map text_of c.args.entries.items in
    IfOk-weaker c.of_entries.result _ _ (λ listing is.
    is ∙ (ap₂ (λ xs end. xs ++ end)
    (ap (flat_map text_of) c.in_ok-insert.ensures.items ∙ (flat_map-cons text_of c.in_ok-header.header c.args.entries.items
    ∙ ap (λ head. head ++ rows) c.in_ok-header.ensures.text)) c.new-2.ensures.items)) c.of_entries.ensures
