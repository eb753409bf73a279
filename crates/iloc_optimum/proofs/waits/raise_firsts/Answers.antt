use Rattle.iloc_optimum.proofs.Common.{arith, length-set, common_steps, get_or_read}
use Rattle.iloc_optimum.proofs.NarrowerWindows.{raised, edge_at, ends_at, waits_at}
use Rattle.iloc_optimum.proofs.waits.raise_firsts.Goals as goal

pub loop-edge-preserved : goal.loop-edge-preserved
loop-edge-preserved c = grind (arith, edge_at, ends_at, length-set, waits_at, get_or_read, raised, common_steps)
