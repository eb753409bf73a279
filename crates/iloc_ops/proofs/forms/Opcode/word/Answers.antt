use Rattle.iloc_ops.proofs.Layouts.{word_is_text, word_is_short, word_is_of_bytes}
use Rattle.iloc_ops.proofs.forms.Opcode.word.Goals as goal

pub returns-clause-text : goal.returns-clause-text
returns-clause-text c = word_is_text c.args.self _

pub returns-clause-short : goal.returns-clause-short
returns-clause-short c = word_is_short c.args.self _

pub returns-clause-bytes : goal.returns-clause-bytes
returns-clause-bytes c = word_is_of_bytes c.args.self _
