use Rattle.iloc_text.proofs.Spaces.{spaces_passed}
use Rattle.iloc_text.proofs.line.scan.count_spaces.Goals as goal

pub returns-clause-passed : goal.returns-clause-passed
returns-clause-passed c =
    spaces_passed c.args.bytes.now c.word_from-others.result c.if-bytes-lt8.false (λ i. (c.type_inv.bytes i).fits) c.word_from-others.ensures
