use Rattle.iloc_text.proofs.Common.{◌≡◌, ◌<◌, List, length, Some, None, sym, ◌∙◌, arith, Block, opened, with_op, with_optional_op, HasTaken}
use Rattle.iloc_text.proofs.Growing.{pushed_behind, with_optional-none, with_optional-some, length-opened}
use Rattle.iloc_text.proofs.reader.open_block.OpenBlock.add_op.Goals as goal
use Rattle.iloc_text.proofs.reader.open_block.OpenBlock.add_op.Goals.{then-self-eq0, else-self-eq0}

pub returns : goal.returns
returns g c = λ start blocks h.
    let took = g.T.TakeBlocks.took in
    let op = c.in-Some.op in
    let count = h.2.count in
    let now : (bs : List Block) × HasTaken took start c.args.taker.now c.if-self-eq0.self bs × (0 < length bs)
    × (with_op op bs ≡ with_optional_op (Some op) blocks) =
    elim c.if-self-eq0.branch [
      | then-self-eq0 w ↦ (
        opened None blocks,
        rw w.self-is (h.0, h.1, w.open_unnamed.ensures h.0 blocks h.2),
        omega (arith, length-opened None blocks),
        sym (with_optional-none op blocks (count ∙ w.if-self-eq0.true)),
      )
      | else-self-eq0 w ↦ (
          let other = w.if-self-eq0.false in
          let some : 0 < length blocks = omega arith in
          (blocks, rw w.self-is h, some, sym (with_optional-some op blocks some))
          )
    ] in
    rw (c.in-Some.is, ← now.3) (pushed_behind took start c.args.taker.now c.if-self-eq0.self c.push.new.self op now.0
    c.args.number c.push.result now.1
    (λ done so_far. c.push.ensures done now.0 so_far now.2))
