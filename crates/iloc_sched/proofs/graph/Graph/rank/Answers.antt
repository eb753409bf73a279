use Rattle.iloc_sched.proofs.Common.{sym, subst, renamed_is_renamed, IsRenamed}
use Rattle.iloc_sched.proofs.graph.Graph.rank.Goals as goal

pub fill_ranks-requires-clause-renamed : goal.fill_ranks-requires-clause-renamed
fill_ranks-requires-clause-renamed c =
    let of = c.self.invariant in
    subst IsRenamed (sym of.named) (renamed_is_renamed of.block)
