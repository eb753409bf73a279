use Rattle.iloc_explain.proofs.ReadyKept.{HasComing}
use Rattle.iloc_explain.proofs.ready_list.ReadyList.new.Given as goal

abbrev pub invariant-loop-j : goal.invariant-loop-j
invariant-loop-j l = HasComing l.explained l.j l.coming.keys
