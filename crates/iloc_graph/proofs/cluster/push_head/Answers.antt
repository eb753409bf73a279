use Rattle.iloc_graph.proofs.Common.{append_assoc}
use Rattle.iloc_graph.proofs.cluster.push_head.Goals as goal

pub returns : goal.returns
returns c =
    rw (c.in_ok-extend_from_slice.ensures.items, c.in_ok-push_name.ensures, c.in_ok-push_all.ensures) (simp append_assoc)
