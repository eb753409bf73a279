use Rattle.iloc_sched.proofs.Renamed.RenamingLoop.{sources_named}
use Rattle.iloc_sched.proofs.renaming.Names.of_sources.Goals as goal

pub returns-clause-names : goal.returns-clause-names
returns-clause-names c = sources_named _ _ _ _ _ _ _ _ _ _ _ _ _ _ c.in_ok-left.ensures.name
    c.in_ok-right.ensures.name c.in_ok-dest.ensures
