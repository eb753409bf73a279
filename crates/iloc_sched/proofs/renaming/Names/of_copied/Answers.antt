use Rattle.iloc_sched.proofs.Renamed.RenamingLoop.{copied_named}
use Rattle.iloc_sched.proofs.renaming.Names.of_copied.Goals as goal

pub returns-clause-names : goal.returns-clause-names
returns-clause-names c =
    copied_named _ _ _ _ _ _ _ _ _ _ c.in_ok-source.ensures.name c.in_ok-dest.ensures
