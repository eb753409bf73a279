use Rattle.iloc_text.proofs.Common.{◌≡◌, ◌+◌, ◌-◌, ◌++◌, length, take, drop, Err, ap, ◌∙◌, arith, length-append, length-drop, length-take, take_all, err_from_is_err_and}
use Rattle.iloc_text.proofs.Splitting.{lines_few}
use Rattle.iloc_text.proofs.TextReads.{err_further, goes_further, split_at, taken_as}
use Rattle.iloc_text.proofs.stream.text_reader.TextReader.read_ended.Goals as goal

pub returns-in_err-number-clause-err : goal.returns-in_err-number-clause-err
returns-in_err-number-clause-err g c = λ start text goes.
    let piece = c.args.piece.now in
    let end = c.in-Some.end in
    let self = c.args.self.now in
    let exit = err_from_is_err_and c.from_residual-in_err-number.result c.from_residual-in_err-number.ensures.1 in
    err_further text self.rest.items piece (take end piece) (drop (end + 1) piece) goes.blocks (self.number + 1)
    c.in_err-number.field-0.0 c.from_residual-in_err-number.result goes.answer
    (split_at piece end c.in-Some.ensures.0.high c.in-Some.ensures.1)
    (c.in_err-number.ensures.blocks start goes.blocks goes.taken) (exit.1 ∙ ap (λ e. Err e) exit.2)

pub returns-clause-ok : goal.returns-clause-ok
returns-clause-ok g c = λ start text goes.
    let piece = c.args.piece.now in
    let end = c.in-Some.end in
    let read = c.in_ok-number.ensures.blocks start goes.blocks goes.taken in
    let kept = c.in_ok-keep-2.ensures in
    let back : take (length piece - (end + 1)) (drop (end + 1) piece) ≡ drop (end + 1) piece =
    take_all (length piece - (end + 1)) (drop (end + 1) piece) (omega (arith, length-drop (end + 1) piece)) in
    goes_further g.T.TakeBlocks.took start c.args.self.now c.keep-2.new.self text piece (take end piece) (drop (end + 1) piece)
    read.0 goes (split_at piece end c.in-Some.ensures.0.high c.in-Some.ensures.1) read.1
    (taken_as g.T.TakeBlocks.took start c.read_behind.new.self c.keep-2.new.self read.0 kept.taker kept.open_block read.2)
    (kept.number ∙ c.in_ok-number.ensures.number)
    (kept.rest ∙ ap (λ items. items ++ take (length piece - (end + 1)) (drop (end + 1) piece)) c.in_ok-number.ensures.kept ∙ back)

pub invariant_of-self : goal.invariant_of-self
invariant_of-self g c = record {
  few = omega (
    arith,
    c.requires.counted,
    c.in_ok-number.ensures.number,
    c.in_ok-number.ensures.length,
    c.in_ok-number.ensures.len,
    lines_few (c.args.self.now.rest.items ++ take c.in-Some.end c.args.piece.now),
    length-append c.args.self.now.rest.items (take c.in-Some.end c.args.piece.now),
    length-take c.in-Some.end c.args.piece.now,
    c.in-Some.ensures.0.high,
  );
}

pub keep-requires-2 : goal.keep-requires-2
keep-requires-2 g c = omega (
  arith,
  c.requires.counted,
  c.in_ok-number.ensures.number,
  c.in_ok-number.ensures.length,
  c.in_ok-number.ensures.len,
  lines_few (c.args.self.now.rest.items ++ take c.in-Some.end c.args.piece.now),
  length-append c.args.self.now.rest.items (take c.in-Some.end c.args.piece.now),
  length-take c.in-Some.end c.args.piece.now,
  c.in-Some.ensures.0.high,
  length-take (length c.args.piece.now - (c.in-Some.end + 1)) (drop (c.in-Some.end + 1) c.args.piece.now),
)

pub returns-clause-counted : goal.returns-clause-counted
returns-clause-counted g c = omega (
  arith,
  c.requires.counted,
  c.in_ok-number.ensures.number,
  c.in_ok-number.ensures.length,
  c.in_ok-number.ensures.len,
  lines_few (c.args.self.now.rest.items ++ take c.in-Some.end c.args.piece.now),
  length-append c.args.self.now.rest.items (take c.in-Some.end c.args.piece.now),
  length-take c.in-Some.end c.args.piece.now,
  c.in-Some.ensures.0.high,
  c.in_ok-keep-2.ensures.number,
  ap length c.in_ok-keep-2.ensures.rest,
  length-append c.read_behind.new.self.rest.items (take (length c.args.piece.now - (c.in-Some.end + 1)) (drop (c.in-Some.end + 1) c.args.piece.now)),
  length-take (length c.args.piece.now - (c.in-Some.end + 1)) (drop (c.in-Some.end + 1) c.args.piece.now),
  length-drop (c.in-Some.end + 1) c.args.piece.now,
)
