use Rattle.iloc_lint.proofs.Common.{◌<◌, length, sym, ap, ◌∙◌, subst, arith, opcode_text, Called, Longest, Rest, common_in, parts}
use Rattle.iloc_lint.proofs.PartsAlong.{rest_of}
use Rattle.iloc_lint.proofs.Languages.{called_stop, called_along}
use Rattle.iloc_lint.proofs.place.operation_at.Goals as goal

pub returns-then-count-text : goal.returns-then-count-text
returns-then-count-text c =
    let text = c.text-text.ensures.text in
    let count = c.common-count.ensures.count ∙ ap (λ t. common_in t c.args.bytes.now) text in
    let less : common_in (opcode_text c.args.opcode) c.args.bytes.now < length (opcode_text c.args.opcode) =
    omega (arith, count, ap length text, c.if-count-text.true) in
    subst (Longest (Called c.args.opcode) c.args.bytes.now) (sym count) (called_stop c.args.opcode c.args.bytes.now less)

pub returns-else-count-text : goal.returns-else-count-text
returns-else-count-text c =
    let text = c.text-text.ensures.text in
    let count = c.common-count.ensures.count ∙ ap (λ t. common_in t c.args.bytes.now) text in
    let rest = subst (λ b. Longest (Rest (parts c.args.opcode)) b c.operands_at.result.at)
    (rest_of c.common-count.result c.args.bytes.now) c.operands_at.ensures in
    called_along c.args.opcode c.args.bytes.now c.common-count.result c.operands_at.result.at count
    (omega (arith, ap length text, c.if-count-text.false)) (omega (arith, ap length text, c.common-count.ensures.within)) rest
