use Rattle.std.proofs.lemmas.Grind.{common_steps}
use Rattle.std.proofs.Common.{arith}
use Rattle.iloc_timed.proofs.Turning.{items_at, items_set}
use Rattle.iloc_timed.proofs.wheel.Wheel.push.Goals as goal

pub returns : goal.returns
returns g c = grind (arith, items_set, items_at, common_steps)
