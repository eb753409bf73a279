use Rattle.std.proofs.Common.{◌++◌, [], ◌∷◌}
use Rattle.iloc_lint.proofs.Listed.{hint_added}
use Rattle.iloc_lint.proofs.hint.push_hints.Goals as goal

pub loop-hint-preserved : goal.loop-hint-preserved
loop-hint-preserved c =
    let what = c.as_bytes.result.now in (
      c.loop-hint.invariant.0 ++ what ∷ [],
      hint_added c.loop-hint.invariant.0 what c.args.text.now.items c.loop-hint.text.items c.push_hint.new.text.items
          c.loop-hint.invariant.1 c.in_ok-push_hint.ensures,
    )
