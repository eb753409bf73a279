use Rattle.iloc_lint.proofs.PartsAlong.{space_at, comma_at, arrow_at, register_at, constant_at}
use Rattle.iloc_lint.proofs.place.part_at.Goals as goal

pub returns-in-Space-clause-part : goal.returns-in-Space-clause-part
returns-in-Space-clause-part c = rw (c.in-Space.is, c.blanks_at-count.ensures.count) (space_at c.args.bytes.now)

pub returns-in-Comma-clause-part : goal.returns-in-Comma-clause-part
returns-in-Comma-clause-part c = rw c.in-Comma.is (comma_at c.args.bytes.now _ _ c.sign_at.ensures.sign)

pub returns-in-Arrow-clause-part : goal.returns-in-Arrow-clause-part
returns-in-Arrow-clause-part c = rw c.in-Arrow.is (arrow_at c.args.bytes.now _ _ c.sign_at-in-Arrow.ensures.sign)

pub returns-in-Register-clause-part : goal.returns-in-Register-clause-part
returns-in-Register-clause-part c =
    rw c.in-Register.is (register_at c.args.bytes.now _ _ c.register_at.ensures.register)

pub returns-in-Constant-clause-part : goal.returns-in-Constant-clause-part
returns-in-Constant-clause-part c =
    rw c.in-Constant.is (constant_at c.args.bytes.now _ _ c.number_at.ensures.number)
