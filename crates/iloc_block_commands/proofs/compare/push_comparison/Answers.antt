use Rattle.iloc_block_commands.proofs.Comparisons.{line_pushed}
use Rattle.iloc_block_commands.proofs.compare.push_comparison.Goals as goal

pub returns : goal.returns
returns c =
    line_pushed c.args.text.now.items _ _ _ _ _ _ _ _ _ _ _ _ c.in_ok-push_head.ensures (rw c.from.ensures at c.in_ok-push_field.ensures)
    c.in_ok-push_sought.ensures c.in_ok-push_cycles.ensures c.in_ok-push_own.ensures c.in_ok-push.ensures.items
