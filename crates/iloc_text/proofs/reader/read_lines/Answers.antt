use Rattle.iloc_text.proofs.Common.{◌+◌, length, Ok, Err, ap, ◌∙◌, arith, err_from_is_err_and, lines_left, with_line, FirstLine, label_of, answer_from, on_verdict}
use Rattle.iloc_text.proofs.Growing.{so_far_within}
use Rattle.iloc_text.proofs.Splitting.{lines_few, lines_are}
use Rattle.iloc_text.proofs.Reading.{label_is_utf8, answer_read, bad_answer, large_answer, err_answer, then_leaves}
use Rattle.iloc_text.proofs.reader.read_lines.Goals as goal

pub read_bodies-requires : goal.read_bodies-requires
read_bodies-requires g c = omega (arith, c.loop-rest.invariant.counted, lines_few c.args.text.now, c.requires, ap (λ rest. length (lines_left rest)) c.in-Some.is)

pub returns-in_err-text-clause-blocks : goal.returns-in_err-text-clause-blocks
returns-in_err-text-clause-blocks g c = λ start blocks taken.
    let stands = c.loop-rest.invariant.stands start blocks taken in
    let exit = err_from_is_err_and c.from_residual.result c.from_residual.ensures.1 in
    rw (exit.1 ∙ ap (λ e. Err e) exit.2) (λ memory. stands.2
    ∙ ap (λ rest. answer_from stands.0 (c.loop-rest.number + 1) (lines_left rest)) c.in-Some.is
    ∙ c.in_err-text.ensures.blocks start stands.0 stands.1 memory)

pub overflow_add-number : goal.overflow_add-number
overflow_add-number g c = omega (arith, c.loop-rest.invariant.counted, lines_few c.args.text.now, c.requires, ap (λ rest. length (lines_left rest)) c.in-Some.is, c.in_ok-text.ensures.number, (lines_are c.in_ok-text.text.now).some)

pub returns-in-Err-Bad-clause-blocks : goal.returns-in-Err-Bad-clause-blocks
returns-in-Err-Bad-clause-blocks g c = λ start blocks taken memory.
    let stands = then_leaves c.loop-rest.number c.in_ok-text.read _ (c.loop-rest.invariant.stands start blocks taken)
    c.in-Some.is (c.in_ok-text.ensures.blocks start) in
    bad_answer _ stands.0 (c.in_ok-text.read + 1) stands.2 (rw (c.in-Err-Bad.is, c.in-Err-Bad.field-0-is) at c.first_line.ensures)

pub returns-in-Err-NumberTooLarge-clause-blocks : goal.returns-in-Err-NumberTooLarge-clause-blocks
returns-in-Err-NumberTooLarge-clause-blocks g c = λ start blocks taken memory.
    let stands = then_leaves c.loop-rest.number c.in_ok-text.read _ (c.loop-rest.invariant.stands start blocks taken)
    c.in-Some.is (c.in_ok-text.ensures.blocks start) in
    large_answer _ stands.0 (c.in_ok-text.read + 1) stands.2
    (rw (c.in-Err-NumberTooLarge.is, c.in-Err-NumberTooLarge.field-0-is) at c.first_line.ensures)

pub add_line-requires : goal.add_line-requires
add_line-requires g c =
    let first : FirstLine c.in_ok-text.text.now (Ok c.in-Ok.found) = rw c.in-Ok.is at c.first_line.ensures in
    label_is_utf8 first.line (label_of c.in-Ok.found.0) c.in-Ok.found.0.op first.is

pub returns-in_err-add_line-clause-blocks : goal.returns-in_err-add_line-clause-blocks
returns-in_err-add_line-clause-blocks g c = λ start blocks taken.
    let stands = then_leaves c.loop-rest.number c.in_ok-text.read _ (c.loop-rest.invariant.stands start blocks taken)
    c.in-Some.is (c.in_ok-text.ensures.blocks start) in
    let number = c.in_ok-text.read + 1 in
    let line = c.in-Ok.found.0 in
    let first : FirstLine c.in_ok-text.text.now (Ok c.in-Ok.found) = rw c.in-Ok.is at c.first_line.ensures in
    let exit = err_from_is_err_and c.from_residual-in_err-add_line.result c.from_residual-in_err-add_line.ensures.1 in
    rw (exit.1 ∙ ap (λ e. Err e) exit.2) (err_answer _ number _ _ c.in_err-add_line.field-0.0
    (answer_read _ stands.0 number (label_of line) line.op stands.2 first)
    (c.in_err-add_line.ensures start stands.0 stands.1))

pub loop-rest-preserved : goal.loop-rest-preserved
loop-rest-preserved g c =
    let now = c.loop-rest.invariant in
    let number = c.in_ok-text.read + 1 in
    let line = c.in-Ok.found.0 in
    let first : FirstLine c.in_ok-text.text.now (Ok c.in-Ok.found) = rw c.in-Ok.is at c.first_line.ensures in
    record {
      counted = omega (arith, now.counted, c.in_ok-text.ensures.number, ap length first.split, ap (λ rest. length (lines_left rest)) c.in-Some.is);
      stands = λ start blocks begun.
          let stands = then_leaves c.loop-rest.number c.in_ok-text.read _ (now.stands start blocks begun)
          c.in-Some.is (c.in_ok-text.ensures.blocks start) in
          let taken = c.in_ok-add_line.ensures start stands.0 stands.1 in (
            with_line (label_of line) line.op stands.0,
            taken,
            answer_read _ stands.0 number (label_of line) line.op stands.2 first
                ∙ ap (on_verdict number (lines_left c.in-Ok.found.1)) (so_far_within taken.0 _ _ number taken.2),
          );
    }

pub returns-clause-blocks : goal.returns-clause-blocks
returns-clause-blocks g c = λ start blocks taken.
    let stands = c.loop-rest.invariant.stands start blocks taken in (
      stands.0,
      stands.2 ∙ ap (λ rest. answer_from stands.0 (c.loop-rest.number + 1) (lines_left rest)) c.in_default.is,
      stands.1,
    )
