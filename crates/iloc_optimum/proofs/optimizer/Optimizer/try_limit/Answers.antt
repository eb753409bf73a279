use Rattle.iloc_optimum.proofs.Common.{◌≡◌, ◌+◌, ◌≤◌, sym, subst, arith, common_steps, length-map, length-replicate, length-tails_under, IsBound, cycles_of, HasNone}
use Rattle.iloc_optimum.specs.Found.{IsFound}
use Rattle.iloc_optimum.proofs.Improvements.{one_lawful, refuted, with_bound, with_schedule}
use Rattle.iloc_optimum.proofs.optimizer.Optimizer.try_limit.Goals as goal

pub search_windows-requires-clause-windows : goal.search_windows-requires-clause-windows
search_windows-requires-clause-windows c = grind (arith, length-map, length-replicate, length-tails_under, common_steps)

pub returns-in-Nothing-clause-known : goal.returns-in-Nothing-clause-known
returns-in-Nothing-clause-known c =
    let g = c.args.graph.now in
    let block = c.args.block.now.ops in
    let w = c.in_ok-windows.windows in
    let none : HasNone c.edges.result.now c.kinds.result.now w =
    subst (IsFound c.edges.result.now c.kinds.result.now w) c.in-Nothing.is c.in_ok-search_windows.ensures in
    let bound : IsBound g.rule g.latencies block (c.args.limit + 1) =
    refuted g.rule g.latencies block g.ops c.args.limit c.edges.result.now c.kinds.result.now w c.requires.graph
    c.kinds.ensures.kinds c.edges.ensures.each (c.in_ok-windows.ensures.firsts, c.in_ok-windows.ensures.lasts) none in
    let is : c.from.result ≡ c.args.limit = c.from.ensures in
    let above = c.requires.above in
    with_bound g.rule g.latencies block c.args.optimum.now (c.from.result + 1) c.requires.known
    (subst (λ n. IsBound g.rule g.latencies block (n + 1)) (sym is) bound) (omega arith)

pub returns-in_ok-schedule-in-Cycles-clause-known :
    goal.returns-in_ok-schedule-in-Cycles-clause-known
returns-in_ok-schedule-in-Cycles-clause-known c =
    let g = c.args.graph.now in
    let block = c.args.block.now.ops in
    let old = c.args.optimum.now.schedule in
    let new = c.keep_shorter.new.best in
    let the = c.in_ok-schedule-in-Cycles.ensures g.rule g.latencies block
    (λ i. record { rule = g.rule; ops = c.requires.graph i; latencies = g.latencies }) in
    with_schedule g.rule g.latencies block c.args.optimum.now new c.requires.known
    (one_lawful g.rule g.latencies block old new c.in_ok-schedule-in-Cycles.schedule the.greedy.lawful c.keep_shorter.ensures.one
    c.requires.known.lawful)
    (subst (λ lat. cycles_of lat new ≤ cycles_of lat old) c.latencies-in-Cycles.ensures c.keep_shorter.ensures.fewer)
