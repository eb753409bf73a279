use Rattle.iloc_view_commands.proofs.Common.{◌++◌, ap, ap₂, ◌∙◌, true, on_ok_weaker}
use Rattle.iloc_explain.specs.Listing.{each_after}
use Rattle.iloc_listing.specs.Listing.{head_as}
use Rattle.iloc_view_commands.proofs.explain.push_rows.Goals as goal

pub returns : goal.returns
returns c =
    on_ok_weaker c.push_table.result (λ told. (
      told.0,
      told.1,
      told.2 ∙ ap (λ head. c.args.text.now.items ++ each_after head told.0)
          (c.deref.ensures.value ∙ (c.in_ok-push_head.ensures
          ∙ ap₂ (λ start name. start ++ head_as true c.args.number name) c.new-head.ensures.items c.as_ref.ensures.value)),
    )) c.push_table.ensures
