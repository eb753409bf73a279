use Rattle.std.proofs.Common.{take}
use Rattle.iloc_terms.specs.Steps.Agreement.{AreMarks}
use Rattle.iloc_terms.proofs.agreement.marks.Given as goal

abbrev pub invariant-loop-number : goal.invariant-loop-number
invariant-loop-number l = AreMarks (take l.number-index l.numbers) l.marks.items
