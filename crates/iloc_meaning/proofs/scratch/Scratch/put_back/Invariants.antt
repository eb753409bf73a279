use Rattle.std.proofs.Common.{◌≡◌, length}
use Rattle.iloc_meaning.specs.Steps.Scratch.{put_back, AreReplaced}
use Rattle.iloc_meaning.proofs.scratch.Scratch.put_back.Given as goal

abbrev pub invariant-loop-replaced : goal.invariant-loop-replaced
invariant-loop-replaced l =
    (put_back l.self-inside.replaced.items l.self-inside.memory ≡ l.fn.self.first)
    × AreReplaced l.self-inside.replaced.items

abbrev pub decreases-loop-replaced : goal.decreases-loop-replaced
decreases-loop-replaced l = length l.self-inside.replaced.items
