use Rattle.std.proofs.Common.{◌≡◌, take}
use Rattle.iloc_meaning.specs.Memory.{words_from}
use Rattle.iloc_meaning.proofs.memory.Memory.with_words.Given as goal

abbrev pub invariant-loop-index : goal.invariant-loop-index
invariant-loop-index l = l.memory ≡ words_from l.at (take l.index l.words)
