use Rattle.iloc_text.proofs.Common.{[], Err, ap, ◌∙◌, err_from_is_err_and, HasTaken}
use Rattle.iloc_text.proofs.Reading.{answer_begins, err_refused, denoted}
use Rattle.iloc_text.proofs.reader.read_blocks.Goals as goal

pub returns-in_err-lines-clause-err : goal.returns-in_err-lines-clause-err
returns-in_err-lines-clause-err g c =
    let taker = c.args.taker.now in
    let begun : HasTaken g.T.TakeBlocks.took taker taker c.none-open.result [] =
    ([], g.met.T.TakeBlocks.took_none taker, c.none-open.ensures) in
    let exit = err_from_is_err_and c.from_residual.result c.from_residual.ensures.1 in
    err_refused c.args.input.now _ c.in_err-lines.field-0.0 c.from_residual.result
    (answer_begins c.args.input.now c.if-input-gt-MAX_INPUT.false) (c.in_err-lines.ensures.blocks taker [] begun)
    (exit.1 ∙ ap (λ e. Err e) exit.2)

pub returns-clause-ok : goal.returns-clause-ok
returns-clause-ok g c =
    let taker = c.args.taker.now in
    let begun : HasTaken g.T.TakeBlocks.took taker taker c.none-open.result [] =
    ([], g.met.T.TakeBlocks.took_none taker, c.none-open.ensures) in
    let read = c.in_ok-lines.ensures.blocks taker [] begun in (
      read.0,
      denoted c.args.input.now _ read.0 (answer_begins c.args.input.now c.if-input-gt-MAX_INPUT.false) read.1,
      c.in_ok-hand_over.ensures taker read.0 read.2,
    )
