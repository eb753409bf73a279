use Rattle.iloc_verdict.proofs.checked.kept.has_asked.Goals as goal

pub returns-in_ok-wanted : goal.returns-in_ok-wanted
returns-in_ok-wanted c =
    rw c.if-asked.true (rw (c.deref.ensures.value, c.in_ok-wanted.ensures) at c.has_operations.ensures)
