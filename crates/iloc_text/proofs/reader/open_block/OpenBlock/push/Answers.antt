use Rattle.std.proofs.Common.{refl, ap, arith}
use Rattle.iloc_text.proofs.Growing.{pushed_so_far, pushed_above}
use Rattle.iloc_text.proofs.reader.open_block.OpenBlock.push.Goals as goal

pub returns-then-branch : goal.returns-then-branch
returns-then-branch c = λ done blocks h some. pushed_so_far c.args.op done blocks c.args.self.now _ h some refl
    (ap (λ ops. record { name = c.args.self.now.block.name; ops = ops })
    (c.in_ok-push_within.ensures.added c.if-branch.true))

pub returns-else-branch : goal.returns-else-branch
returns-else-branch c = λ done blocks h some memory.
    let full = c.in_ok-push_within.ensures.full c.if-branch.false in
    let short = c.args.self.now.short in
    pushed_above c.args.op done blocks c.args.self.now c.args.number h some (omega arith)
