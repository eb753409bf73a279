use Rattle.iloc_sched.specs.Steps.Cycle.RankSets.{IsSearched}
use Rattle.iloc_sched.proofs.cycle.words.first_of_block.Given as goal

abbrev pub invariant-loop-left : goal.invariant-loop-left
invariant-loop-left l = IsSearched l.words l.beside l.block l.some l.left

abbrev pub decreases-loop-left : goal.decreases-loop-left
decreases-loop-left l = l.left
