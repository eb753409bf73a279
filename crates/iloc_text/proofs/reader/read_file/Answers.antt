use Rattle.iloc_text.proofs.Common.{◌≡◌, ◌++◌, sym, ap, ◌∙◌, subst, AreWithinLimits}
use Rattle.iloc_text.proofs.Within.{files_within}
use Rattle.iloc_text.proofs.reader.read_file.Goals as goal

pub returns-clause-limits : goal.returns-clause-limits
returns-clause-limits c =
    let read = c.in_ok-read_blocks.ensures.ok in
    let all : c.in_ok-into_file.field-0.blocks ≡ read.0 =
    c.in_ok-into_file.ensures ∙ read.2 ∙ ap (λ blocks. blocks ++ read.0) c.new-copies.ensures in
    subst AreWithinLimits (sym all) (files_within c.args.input.now read.0 read.1)
