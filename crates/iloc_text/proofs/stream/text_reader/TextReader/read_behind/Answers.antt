use Rattle.iloc_text.proofs.Common.{◌≡◌, ◌+◌, true, ◌++◌, length, ◌==◌, vec_len, sym, ◌∙◌, subst, subst₂, arith, nat_tests, nil_from_length, lines_of, HasTaken, Answered, answer_from}
use Rattle.iloc_text.proofs.TextReads.{taken_as}
use Rattle.iloc_text.proofs.stream.text_reader.TextReader.read_behind.Goals as goal

pub returns-then-is_empty-clause-blocks : goal.returns-then-is_empty-clause-blocks
returns-then-is_empty-clause-blocks g c = λ start blocks taken.
    let test : (vec_len c.args.self.now.rest == 0) ≡ true = sym c.is_empty.ensures ∙ c.if-is_empty.true in
    let zero : vec_len c.args.self.now.rest ≡ 0 = grind (arith, nat_tests, test) in
    let none : length c.args.self.now.rest.items ≡ 0 = omega (arith, zero) in
    subst (λ rest. Answered (HasTaken g.T.TakeBlocks.took start c.read_lines.new.taker c.read_lines.new.open_block)
    (answer_from blocks (c.args.self.now.number + 1) (lines_of (rest ++ c.args.bytes.now))) c.read_lines.result)
    (sym (nil_from_length c.args.self.now.rest.items none))
    (c.read_lines.ensures.blocks start blocks taken)

pub returns-clause-blocks : goal.returns-clause-blocks
returns-clause-blocks g c = λ start blocks taken.
    let kept = c.in_ok-keep.ensures in
    subst₂ (λ number items. Answered (HasTaken g.T.TakeBlocks.took start c.read_kept-read.new.self.taker c.read_kept-read.new.self.open_block)
    (answer_from blocks (number + 1) (lines_of items)) c.read_kept-read.result) kept.number kept.rest
    (c.read_kept-read.ensures.blocks start blocks
    (taken_as g.T.TakeBlocks.took start c.args.self.now c.keep.new.self blocks kept.taker kept.open_block taken))
