use Rattle.iloc_sched.proofs.Common.{◌≡◌, List, ◌∙◌, arith, take_all, Op, Latencies, priorities_by_all, priorities_by, priorities_by_where, counts_by, MemoryRule, Book}
use Rattle.iloc_rules.specs.declared.heuristic.Heuristic.{Heuristic}
use Rattle.iloc_sched.proofs.ranking.priorities_by.Goals as goal

by_the_book : (rule : MemoryRule) (heuristic : Heuristic) (lat lat' : Latencies) (ops ops' : List Op) → rule ≡ Book
    → lat' ≡ lat → ops' ≡ ops
    → priorities_by_where (counts_by rule ops') heuristic lat' ops' ≡ priorities_by heuristic lat ops
by_the_book rule heuristic lat lat' ops ops' book same_lat same_ops =
    rw (book, same_lat, same_ops) (priorities_by_all heuristic lat ops)

pub returns : goal.returns
returns c =
    let t = c.open_renamed.new.self in
    let opened = c.in_ok-open_renamed.ensures in
    c.loop-prio.invariant ∙ take_all c.loop-prio.prio-index c.as_slice-prio-items.result.now (omega arith)
    ∙ c.as_slice-prio-items.ensures.value ∙ c.in_ok-fill_ranks.ensures
    ∙ by_the_book t.rule c.args.heuristic c.args.latencies.now t.latencies c.args.ops.now t.ops.items opened.rule opened.latencies opened.ops
