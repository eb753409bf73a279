use Rattle.std.proofs.Common.{arith}
use Rattle.iloc_ops.proofs.ShortNumbers.{tens_fit, text_is}
use Rattle.iloc_ops.proofs.spelling.digits.four_digits.Goals as goal

pub overflow_sub-digits-2 : goal.overflow_sub-digits-2
overflow_sub-digits-2 c = omega (arith, tens_fit c.args.number c.requires)

pub returns-clause-text : goal.returns-clause-text
returns-clause-text c = rw c.to_le_bytes.ensures (text_is c.args.number c.requires)
