use Rattle.iloc_text.proofs.Common.{◌+◌, subst, lines_of, HasTaken, Answered, answer_from}
use Rattle.iloc_text.proofs.stream.text_reader.TextReader.read_kept.Goals as goal

pub returns-clause-blocks : goal.returns-clause-blocks
returns-clause-blocks g c = λ start blocks taken.
    subst (λ text. Answered (HasTaken g.T.TakeBlocks.took start c.read_lines.new.taker c.read_lines.new.open_block)
    (answer_from blocks (c.args.self.now.number + 1) (lines_of text)) c.read_lines.result)
    c.deref.ensures.value (c.read_lines.ensures.blocks start blocks taken)
