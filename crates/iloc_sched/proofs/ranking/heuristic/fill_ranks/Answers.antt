use Rattle.iloc_sched.proofs.Common.{sym, ap, ◌∙◌, on_ok_weaker, priorities_by_where, counts_by}
use Rattle.std.proofs.lemmas.Simd.{splat_is_map}
use Rattle.iloc_sched.proofs.ranking.heuristic.fill_ranks.Goals as goal

pub returns-in-Order : goal.returns-in-Order
returns-in-Order c = on_ok_weaker c.fill_zeros.result
    (λ are. are ∙ (splat_is_map c.args.tables.now.ops.items c.len.result 0 (sym (c.len.ensures ∙ c.args.tables.now.ops.ok.0))
    ∙ ap (λ h. priorities_by_where (counts_by c.args.tables.now.rule c.args.tables.now.ops.items) h c.args.tables.now.latencies c.args.tables.now.ops.items) (sym c.in-Order.is)))
    c.fill_zeros.ensures
