use Rattle.std.proofs.Common.{ap}
use Rattle.iloc_text.proofs.OpcodeWords.{opcode_begins}
use Rattle.iloc_text.proofs.line.opcode.opcode_at.Goals as goal

pub returns-then-front-text-clause-is : goal.returns-then-front-text-clause-is
returns-then-front-text-clause-is c =
    opcode_begins c.opcode_by_letters-opcode.result c.of.result.now.text c.args.bytes.now c.word_from-front.result c.requires
    (λ i. (c.type_inv.bytes i).fits) c.word_from-front.ensures (ap (λ s. s.text) c.of.ensures) c.if-front-text.true
