use Rattle.std.proofs.Common.{◌∙◌}
use Rattle.iloc_driver.proofs.Words.{made_none, made_some}
use Rattle.iloc_driver.proofs.program.request_of.Goals as goal

pub returns-in_ok-without_name-in-Ok-clause-err : goal.returns-in_ok-without_name-in-Ok-clause-err
returns-in_ok-without_name-in-Ok-clause-err c =
    made_none _ _ _ c.parse_line.result c.in-Ok.is (c.deref.ensures.value ∙ c.in_ok-without_name-in-Ok.ensures)
    c.parse_line.ensures.err

pub returns-in_ok-without_name-in-Ok-clause-ok : goal.returns-in_ok-without_name-in-Ok-clause-ok
returns-in_ok-without_name-in-Ok-clause-ok c =
    made_some _ _ _ c.parse_line.result c.in-Ok.is (c.deref.ensures.value ∙ c.in_ok-without_name-in-Ok.ensures)
    c.parse_line.ensures.ok
