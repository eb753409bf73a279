use Rattle.iloc_farm.proofs.Reasons.{of_input, of_task}
use Rattle.iloc_farm.proofs.reason.reason_of.Goals as goal

pub returns-in-Ok : goal.returns-in-Ok
returns-in-Ok g c = of_input _ _ c.reason_for-in-Ok.result c.reason_for-in-Ok.ensures

pub returns : goal.returns
returns g c =
    of_task _ _ _ _ _ c.reason_for-in-Err.result c.in-Some-text_named.ensures c.deref-in-Err.ensures.value
    c.reason_for-in-Err.ensures
