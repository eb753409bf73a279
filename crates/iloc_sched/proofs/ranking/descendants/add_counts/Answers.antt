use Rattle.iloc_sched.proofs.Common.{arith, get_or_read, ones-le}
use Rattle.iloc_sched.proofs.ranking.descendants.add_counts.Goals as goal

pub overflow_add-index_mut : goal.overflow_add-index_mut
overflow_add-index_mut c = grind (arith, get_or_read c.loop-i.counts.items, ones-le 64, c.index_mut.ensures.value 0)
