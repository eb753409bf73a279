use Rattle.iloc_optimum.proofs.Common.{◌≤◌, ap, ◌∙◌, subst, sym, cycles_of}
use Rattle.iloc_optimum.proofs.Improvements.{count_of_the, shortened}
use Rattle.iloc_optimum.proofs.optimizer.try_order.Goals as goal

pub returns-clause-counted : goal.returns-clause-counted
returns-clause-counted c =
    let g = c.args.graph.now in
    count_of_the g.rule g.latencies c.args.block.now.ops c.args.heuristic c.in_ok-other.other
    (c.in_ok-other.ensures g.rule g.latencies c.args.block.now.ops
    (λ i. record { rule = g.rule; ops = c.requires.graph i; latencies = g.latencies })) _
    (c.keep_shorter.ensures.counted ∙ ap (λ lat. cycles_of lat c.in_ok-other.other) c.latencies.ensures)

pub returns-clause-shorter : goal.returns-clause-shorter
returns-clause-shorter c =
    let g = c.args.graph.now in
    let block = c.args.block.now.ops in
    let old = c.args.best.now in
    let new = c.keep_shorter.new.best in
    let other = c.in_ok-other.other in
    let kept = c.keep_shorter.ensures in
    shortened g.rule g.latencies block c.args.heuristic old new other
    (c.in_ok-other.ensures g.rule g.latencies block
    (λ i. record { rule = g.rule; ops = c.requires.graph i; latencies = g.latencies })) kept.one
    (subst (λ lat. cycles_of lat new ≤ cycles_of lat old) c.latencies.ensures kept.fewer)
    (subst (λ lat. cycles_of lat new ≤ cycles_of lat other) c.latencies.ensures kept.few)

pub keep_shorter-requires : goal.keep_shorter-requires
keep_shorter-requires c = c.requires.fewest ∙ ap (λ lat. cycles_of lat c.args.best.now) (sym c.latencies.ensures)

pub returns-clause-fewest : goal.returns-clause-fewest
returns-clause-fewest c = c.keep_shorter.ensures.fewest ∙ ap (λ lat. cycles_of lat c.keep_shorter.new.best) c.latencies.ensures
