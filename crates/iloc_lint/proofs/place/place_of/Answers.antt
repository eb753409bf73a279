use Rattle.iloc_lint.proofs.Common.{arith, opcodes}
use Rattle.iloc_ops.specs.declared.forms.Opcode.TheVariants.{Load}
use Rattle.iloc_lint.proofs.Longest.{comment_along}
use Rattle.iloc_lint.proofs.PartsAlong.{rest_of}
use Rattle.iloc_lint.proofs.Languages.{next_opcode}
use Rattle.iloc_lint.proofs.Placed.{place_found}
use Rattle.iloc_lint.proofs.place.place_of.Goals as goal

pub loop-opcode-init : goal.loop-opcode-init
loop-opcode-init c = rw c.comment_at-most.ensures.count (comment_along _)

pub loop-opcode-preserved : goal.loop-opcode-preserved
loop-opcode-preserved c =
    rw c.max-most.ensures
    (next_opcode opcodes c.loop-opcode.opcode-index Load c.loop-opcode-test.true c.loop-opcode.invariant
    c.operation_at.ensures)

pub overflow_add-result : goal.overflow_add-result
overflow_add-result c =
    let most = rw (rest_of _ c.args.line.now) at c.loop-opcode.invariant.within in
    omega (arith, most)

pub returns : goal.returns
returns c =
    place_found c.args.line.now c.label_at-label.result c.blanks_at.result c.loop-opcode.most c.loop-opcode.opcode-index
    c.label_at-label.ensures.count c.label_at-label.ensures.within c.blanks_at.ensures.count c.loop-opcode-test.false
    c.loop-opcode.invariant
