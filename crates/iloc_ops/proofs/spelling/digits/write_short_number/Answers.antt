use Rattle.std.proofs.Common.{◌-◌, arith}
use Rattle.iloc_ops.proofs.Sets.{last_of_sets}
use Rattle.iloc_ops.proofs.spelling.digits.write_short_number.Goals as goal

pub returns-clause-written : goal.returns-clause-written
returns-clause-written c =
    let digits = c.four_digits-zeros.result in
    rw (← c.four_digits-zeros.ensures.text)
    (last_of_sets digits.0 c.args.line.now (c.args.end - 4) c.args.end digits.1 3 (omega arith) c.requires.1 (omega arith)
    (omega (arith, c.four_digits-zeros.ensures.few)))
