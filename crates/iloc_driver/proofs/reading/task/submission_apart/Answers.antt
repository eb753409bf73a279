use Rattle.iloc_driver.proofs.Tasks.{apart_read}
use Rattle.iloc_driver.proofs.reading.task.submission_apart.Goals as goal

pub returns-clause-ok : goal.returns-clause-ok
returns-clause-ok g c =
    apart_read _ _ _ _ _ _ _ _ c.submissions_apart_are_within_limits.ensures c.in_ok-blocks.ensures.ok c.in_ok-rows.ensures
    c.as_slice.ensures c.deref.ensures.value c.in_ok-proposals.ensures.ok
