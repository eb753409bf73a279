use Rattle.iloc_reasons.proofs.origins.origins_by.Goals as goal

pub origins_among-requires-clause-each : goal.origins_among-requires-clause-each
origins_among-requires-clause-each c = rw c.deref-5.ensures.value c.in_ok-known.ensures.each
