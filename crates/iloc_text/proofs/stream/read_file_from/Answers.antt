use Rattle.iloc_text.proofs.Common.{◌≡◌, ◌++◌, sym, ap, ◌∙◌, subst, AreWithinLimits}
use Rattle.iloc_text.proofs.Within.{files_within}
use Rattle.iloc_text.proofs.stream.read_file_from.Goals as goal

pub returns-clause-limits : goal.returns-clause-limits
returns-clause-limits g c =
    let read = c.in_ok-copies.ensures.ok in
    let blocks = read.2 in
    let all : c.in_ok-into_file.field-0.blocks ≡ blocks =
    c.in_ok-into_file.ensures ∙ read.4 ∙ ap (λ front. front ++ blocks) c.new.ensures in
    subst AreWithinLimits (sym all) (files_within read.0 blocks read.3)
