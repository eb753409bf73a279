use Rattle.iloc_lint.proofs.Common.{take, Bodies, Longest}
use Rattle.iloc_lint.proofs.place.place_of.Given as goal

abbrev pub invariant-loop-opcode : goal.invariant-loop-opcode
invariant-loop-opcode l = Longest (Bodies (take l.opcode-index l.opcode-items)) l.bytes l.most
