use Rattle.std.proofs.lemmas.Grind.{common_steps}
use Rattle.std.proofs.Common.{arith}
use Rattle.std.proofs.lemmas.Int.{to_z-of_z}
use Rattle.std.proofs.lemmas.List.Elements.{All-pop}
use Rattle.iloc_meaning.proofs.PuttingBack.{put_back-last}
use Rattle.iloc_meaning.proofs.scratch.Scratch.put_back.Goals as goal

pub loop-replaced-preserved : goal.loop-replaced-preserved
loop-replaced-preserved c = grind (arith, to_z-of_z, put_back-last, All-pop, common_steps)
