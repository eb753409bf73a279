use Rattle.iloc_text.proofs.Common.{◌-◌, length, drop, Some, subst, arith, length-drop, take_all, Blanks, OptionalComment, ◌⋅◌, FirstIs}
use Rattle.iloc_text.proofs.OnePass.{operation_first}
use Rattle.iloc_text.proofs.line.one_pass.fast_operation.Goals as goal

pub returns-then-after-behind : goal.returns-then-after-behind
returns-then-after-behind c =
    let bytes = c.args.bytes.now in
    let at = c.in_ok-op.at in
    let rest = drop at bytes in
    let after = Some c.behind_operation-after.result in
    operation_first bytes (drop c.in_ok-opcode.start bytes) rest after c.in_ok-opcode.opcode
    c.in_ok-op.op c.in_ok-opcode.ensures.is c.in_ok-op.ensures.is c.in_ok-op.ensures.small
    (subst (λ text. FirstIs (Blanks ⋅ OptionalComment) text after)
    (take_all (length bytes - at) rest (omega (arith, length-drop at bytes)))
    (c.behind_operation-after.ensures c.if-after-behind.true))
