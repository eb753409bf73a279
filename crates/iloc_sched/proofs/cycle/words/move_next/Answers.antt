use Rattle.iloc_sched.proofs.Common.{arith, w64, and_le_l, bit_at-trailing_zeros, bit_at_clear_other, bit_at_clear_same}
use Rattle.iloc_sched.proofs.Ranks.WordBits.{cleared_less}
use Rattle.iloc_sched.proofs.cycle.words.move_next.Goals as goal

pub returns-clause-less : goal.returns-clause-less
returns-clause-less c = grind (arith, bit_at-trailing_zeros w64, cleared_less)

pub returns-clause-most : goal.returns-clause-most
returns-clause-most c = and_le_l c.args.left _

pub returns-clause-gone : goal.returns-clause-gone
returns-clause-gone c = grind (arith, bit_at_clear_same w64)

pub returns-clause-stays : goal.returns-clause-stays
returns-clause-stays c = grind (arith, bit_at_clear_other w64)
