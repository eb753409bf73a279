use Rattle.iloc_view_commands.proofs.Common.{◌++◌, map, flat_map, sym, refl, ap, ◌∙◌, append_assoc, IfOk-weaker, made_listing, IsExplainEntry}
use Rattle.iloc_args.specs.Flags.{has}
use Rattle.iloc_args.specs.declared.flag.Flag.TheVariants.{Csv}
use Rattle.iloc_listing.specs.Listing.{count_ending, opening_as}
use Rattle.iloc_listing.specs.declared.text.ScheduleEntry.{ScheduleEntry}
use Rattle.iloc_driver.specs.Priorities.{own_of}
use Rattle.iloc_view_commands.specs.Explain.{explain_header}
use Rattle.iloc_view_commands.proofs.explain.ExplainListerFarmedLister.listing.Goals as goal

pub listing_of-requires : goal.listing_of-requires
listing_of-requires c = rw c.requires.many c.requires.few

pub returns-clause-made : goal.returns-clause-made
returns-clause-made c = rw c.has-csv.ensures at c.listing_of.ensures

pub returns-clause-right : goal.returns-clause-right
returns-clause-right c =
    let csv = has c.args.request.now.flags Csv in
    let entries = c.args.entries.items in
    let ending = count_ending csv in
    let opening = opening_as csv explain_header in
    let texts = flat_map (λ (e : ScheduleEntry). e.text) entries in
    let end = ending (map (λ (e : ScheduleEntry). e.cycles) entries) in
    IfOk-weaker c.listing_of.result _ _ (λ text is. λ own are.
    let plain = made_listing (λ k. IsExplainEntry c.args.request.now (own_of own k) k) (λ e. e.text) (λ e. e.cycles) ending
    c.args.blocks entries (texts ++ end) are refl in
    record {
      found = plain.found;
      entries = plain.entries;
      listed = plain.listed;
      whole = is ∙ (append_assoc opening texts end ∙ (ap (λ xs. opening ++ xs) plain.whole
          ∙ sym (append_assoc opening plain.entries (ending plain.found))));
    }) (returns-clause-made c)
