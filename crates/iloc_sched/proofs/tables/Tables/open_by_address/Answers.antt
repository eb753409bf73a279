use Rattle.std.proofs.Common.{arith}
use Rattle.iloc_sched.proofs.KeptEdges.SoundGraphs.{is_sound}
use Rattle.iloc_sched.proofs.KeptEdges.ListedKinds.{listed}
use Rattle.iloc_sched.proofs.tables.Tables.open_by_address.Goals as goal

pub fill_by_address-requires-clause-own : goal.fill_by_address-requires-clause-own
fill_by_address-requires-clause-own c = grind (arith, listed)

pub returns-clause-sound : goal.returns-clause-sound
returns-clause-sound c = is_sound _ (grind arith) (grind (arith, listed)) (grind arith)
