use Rattle.iloc_explain.proofs.ready_list.ReadyList.len.Goals as goal

pub returns-clause-order : goal.returns-clause-order
returns-clause-order c = record { ready = c.len.ensures.ordered; coming = c.len-coming.ensures.ordered }
