use Rattle.iloc_explain.proofs.Common.{List, length, IsKept, Explained}
use Rattle.iloc_explain.proofs.ready_list.ReadyList.release.Given as goal

abbrev pub invariant-loop-place : goal.invariant-loop-place
invariant-loop-place l = (es : List Explained) → IsKept es l.cycle l.initial.self → IsKept es l.cycle l.self

abbrev pub decreases-loop-place : goal.decreases-loop-place
decreases-loop-place l = length l.self.coming.keys
