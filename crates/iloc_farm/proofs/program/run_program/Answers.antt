use Rattle.iloc_farm.proofs.Status.{status_0_tells}
use Rattle.iloc_farm.proofs.program.run_program.Goals as goal

pub returns-clause-status_0 : goal.returns-clause-status_0
returns-clause-status_0 g c zero = status_0_tells _ _ _ _ _ _ _ _ _ c.run_words.ensures zero
