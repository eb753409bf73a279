use Rattle.iloc_text.proofs.Common.{◌+◌, length, None, Err, ap, ◌∙◌, arith, err_from_is_err_and, lines_of, with_line, on_verdict}
use Rattle.iloc_text.proofs.Growing.{so_far_within}
use Rattle.iloc_text.proofs.OnePass.{body_first}
use Rattle.iloc_text.proofs.Reading.{answer_read, err_answer}
use Rattle.iloc_text.proofs.reader.read_bodies.Goals as goal

pub overflow_add-number : goal.overflow_add-number
overflow_add-number g c =
    let first = body_first c.loop-op.rest.now _ c.in-Some.op _ c.after_blanks.ensures c.in-Some.ensures in
    omega (arith, c.loop-op.invariant.counted, c.requires, ap length first.split)

pub returns-in_err-add_op-clause-blocks : goal.returns-in_err-add_op-clause-blocks
returns-in_err-add_op-clause-blocks g c = λ start blocks taken.
    let stands = c.loop-op.invariant.stands start blocks taken in
    let number = c.loop-op.number + 1 in
    let op = c.in-Some.op in
    let first = body_first c.loop-op.rest.now _ op _ c.after_blanks.ensures c.in-Some.ensures in
    let exit = err_from_is_err_and c.from_residual.result c.from_residual.ensures.1 in
    rw (exit.1 ∙ ap (λ e. Err e) exit.2) (err_answer _ number _ _ c.in_err-add_op.field-0.0
    (answer_read _ stands.0 number None op stands.2 first) (c.in_err-add_op.ensures start stands.0 stands.1))

pub loop-op-smaller : goal.loop-op-smaller
loop-op-smaller g c =
    let first = body_first c.loop-op.rest.now _ c.in-Some.op _ c.after_blanks.ensures c.in-Some.ensures in
    omega (arith, ap length first.split)

pub loop-op-preserved : goal.loop-op-preserved
loop-op-preserved g c =
    let now = c.loop-op.invariant in
    let number = c.loop-op.number + 1 in
    let op = c.in-Some.op in
    let first = body_first c.loop-op.rest.now _ op _ c.after_blanks.ensures c.in-Some.ensures in
    record {
      counted = omega (arith, now.counted, ap length first.split);
      fewer = omega (arith, now.fewer, ap length first.split);
      stands = λ start blocks begun.
          let stands = now.stands start blocks begun in
          let taken = c.in_ok-add_op.ensures start stands.0 stands.1 in (
            with_line None op stands.0,
            taken,
            answer_read _ stands.0 number None op stands.2 first
                ∙ ap (on_verdict number (lines_of c.in-Some.after.now)) (so_far_within taken.0 _ _ number taken.2),
          );
    }
