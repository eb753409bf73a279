use Rattle.std.proofs.lemmas.Grind.{common_steps}
use Rattle.std.proofs.Common.{arith}
use Rattle.std.proofs.lemmas.Int.{to_z-of_z}
use Rattle.iloc_meaning.proofs.PuttingBack.{put_back-write}
use Rattle.iloc_meaning.proofs.scratch.Scratch.set.Goals as goal

pub returns-clause-first : goal.returns-clause-first
returns-clause-first c = grind (arith, put_back-write, to_z-of_z, common_steps)
