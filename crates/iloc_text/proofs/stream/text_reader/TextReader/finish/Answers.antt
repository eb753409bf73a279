use Rattle.iloc_text.proofs.Common.{◌+◌, Err, ap, ◌∙◌, subst, err_from_is_err_and, HasFault, StandsAt}
use Rattle.iloc_text.proofs.Reading.{err_refused, denoted}
use Rattle.iloc_text.proofs.TextReads.{answer_at_end, refused_at_end, short_by_count}
use Rattle.iloc_text.proofs.stream.text_reader.TextReader.finish.Goals as goal

pub returns-in-Some-clause-err : goal.returns-in-Some-clause-err
returns-in-Some-clause-err g c = λ start text read memory.
    let short = short_by_count _ _ read.counted c.if-self-gt-MAX_INPUT.false in
    let faulty : HasFault text c.in-Some.fault = rw c.in-Some.is at read.stands short in
    refused_at_end text c.in-Some.fault short faulty

pub returns-in_err-read_kept-clause-err : goal.returns-in_err-read_kept-clause-err
returns-in_err-read_kept-clause-err g c = λ start text read.
    let short = short_by_count _ _ read.counted c.if-self-gt-MAX_INPUT.false in
    let stands = subst (λ fault. StandsAt fault g.T.TakeBlocks.took start c.args.self text) c.in_default.is (read.stands short) in
    let exit = err_from_is_err_and c.from_residual.result c.from_residual.ensures.1 in
    err_refused text _ c.in_err-read_kept.field-0.0 c.from_residual.result
    (answer_at_end text c.args.self.rest.items stands.blocks (c.args.self.number + 1) short stands.answer)
    (c.in_err-read_kept.ensures.blocks start stands.blocks stands.taken) (exit.1 ∙ ap (λ e. Err e) exit.2)

pub returns-clause-ok : goal.returns-clause-ok
returns-clause-ok g c = λ start text read.
    let short = short_by_count _ _ read.counted c.if-self-gt-MAX_INPUT.false in
    let stands = subst (λ fault. StandsAt fault g.T.TakeBlocks.took start c.args.self text) c.in_default.is (read.stands short) in
    let kept = c.in_ok-read_kept.ensures.blocks start stands.blocks stands.taken in (
      kept.0,
      denoted text _ kept.0
          (answer_at_end text c.args.self.rest.items stands.blocks (c.args.self.number + 1) short stands.answer) kept.1,
      c.in_ok-hand_over.ensures start kept.0 kept.2,
    )
