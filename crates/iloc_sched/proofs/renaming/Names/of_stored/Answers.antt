use Rattle.iloc_sched.proofs.Renamed.RenamingLoop.{stored_named}
use Rattle.iloc_sched.proofs.renaming.Names.of_stored.Goals as goal

pub returns-clause-names : goal.returns-clause-names
returns-clause-names c = λ own.
    stored_named _ _ _ _ own _ _ _ _ _ _ c.in_ok-value.ensures.name c.in_ok-addr.ensures.name
