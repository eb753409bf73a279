use Rattle.std.proofs.Common.{◌≡◌, ◌+◌, ◌-◌, arith}
use Rattle.iloc_ops.proofs.Sets.{last_of_sets}
use Rattle.iloc_ops.proofs.spelling.layout.write_last.Goals as goal

pub returns-clause-written : goal.returns-clause-written
returns-clause-written c =
    let start : c.args.end - c.args.count ≡ c.args.end - 8 + (8 - c.args.count) = omega arith in
    rw start
    (last_of_sets c.args.bytes.now c.args.line.now (c.args.end - 8) c.args.end (8 - c.args.count) 7 (omega arith) c.requires.1 (omega arith)
    (omega arith))
