use Rattle.std.proofs.Common.{◌∙◌, sym, ap, ap₂, slice_get}
use Rattle.iloc_lint.proofs.OneLine.{said_more}
use Rattle.iloc_lint.proofs.alone.ContentTakeBlocks.take.Goals as goal

pub returns : goal.returns
returns c = λ start blocks taken count.
    ap₂ (λ labelled op. record { labelled = labelled; op = op }) c.is_some.ensures
    (c.copied.ensures ∙ (c.first.ensures.value ∙ ap (λ l. slice_get l 0) c.as_slice.ensures))
    ∙ sym (said_more start blocks c.args.block.now)
