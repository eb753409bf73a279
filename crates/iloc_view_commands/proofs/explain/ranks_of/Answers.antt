use Rattle.iloc_view_commands.proofs.Common.{arith, ruled_priorities}
use Rattle.std.proofs.lemmas.Grind.{common_steps}
use Rattle.iloc_view_commands.proofs.explain.ranks_of.Goals as goal

pub returns : goal.returns
returns c = grind (arith, ruled_priorities, common_steps)
