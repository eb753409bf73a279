use Rattle.std.proofs.Common.{arith}
use Rattle.iloc_text.proofs.Digits.{number_in_front}
use Rattle.iloc_text.proofs.line.numbers.long_number_at.Goals as goal

pub returns-then-value-lt-ABOVE_LIMIT-clause-is : goal.returns-then-value-lt-ABOVE_LIMIT-clause-is
returns-then-value-lt-ABOVE_LIMIT-clause-is c counted =
    let some = c.if-count-gt0.true in
    let few = c.if-count-le-MOST_DIGITS.true in
    let front = c.min.ensures in
    number_in_front c.min.result _ _ c.args.bytes.now some c.with_digits-value.ensures.inside (grind (arith, few, front))
    c.with_digits-value.ensures.found
