use Rattle.iloc_sched.proofs.Common.{arith, on_ok_weaker}
use Rattle.iloc_sched.proofs.KeptEdges.LastsNoted.{noted_in_turn}
use Rattle.iloc_sched.proofs.edges.lasts.Lasts.note.Goals as goal

pub returns-clause-lasts : goal.returns-clause-lasts
returns-clause-lasts c = grind (arith, noted_in_turn, on_ok_weaker)
