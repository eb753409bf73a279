use Rattle.iloc_view_commands.proofs.Common.{on_ok_weaker}
use Rattle.iloc_view_commands.proofs.Listers.{text_with_block}
use Rattle.iloc_view_commands.proofs.explain.push_text.Goals as goal

pub returns : goal.returns
returns c =
    on_ok_weaker c.push_said.result (λ told. (
      told.0,
      told.1,
      text_with_block c.args.text.now.items _ _ _ told.0 c.args.number c.args.explained.now.block.now _ c.in_ok-push_block_head.ensures
          c.as_ref.ensures.value c.in_ok-push.ensures.items told.2,
    )) c.push_said.ensures
