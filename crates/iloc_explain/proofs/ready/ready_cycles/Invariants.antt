use Rattle.iloc_explain.proofs.Common.{take}
use Rattle.iloc_explain.specs.Steps.Ready.{AreReady}
use Rattle.iloc_explain.proofs.ready.ready_cycles.Given as goal

abbrev pub invariant-loop-pair : goal.invariant-loop-pair
invariant-loop-pair l = AreReady (take l.pair-index l.pairs) l.issued l.ready.items
