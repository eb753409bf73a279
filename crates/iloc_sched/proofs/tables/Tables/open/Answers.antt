use Rattle.std.proofs.Common.{refl}
use Rattle.iloc_sched.proofs.KeptEdges.SoundGraphs.{book_is_sound}
use Rattle.iloc_sched.proofs.tables.Tables.open.Goals as goal

pub returns-clause-sound : goal.returns-clause-sound
returns-clause-sound c = book_is_sound _ refl (record {
  kinds = c.in_ok-gather.ensures.book.kinds;
  own = c.in_ok-gather.ensures.book.own;
  graph = c.in_ok-gather.ensures.book.graph;
})
