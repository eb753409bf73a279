use Rattle.iloc_block_commands.proofs.Common.{◌≤◌, option_copied, ap, ◌∙◌, subst, arith, common_steps, Chain, GraphOf, of_block, least_of_under, least_under, AreOrders, IsSoughtIf, memory_rule, most_cycles}
use Rattle.iloc_block_commands.proofs.Comparisons.{all_counted, bound_small}
use Rattle.iloc_block_commands.proofs.Listers.{each_ranked}
use Rattle.iloc_block_commands.proofs.compare.CompareListerFarmedLister.answer.Goals as goal

pub orders-requires-clause-graph : goal.orders-requires-clause-graph
orders-requires-clause-graph c = ap (λ (g : GraphOf). g.ops) c.in_ok-refill.ensures.graph

pub seek_from-requires-clause-graph : goal.seek_from-requires-clause-graph
seek_from-requires-clause-graph c = ap (λ (g : GraphOf). g.ops) c.in_ok-refill.ensures.graph

pub own_count-requires : goal.own_count-requires
own_count-requires c =
    each_ranked (option_copied c.args.job.now.own) c.args.job.now.block.now _ (ap (λ (g : GraphOf). g.ops) c.in_ok-refill.ensures.graph) c.args.job.now.each

pub overflow_cast-result : goal.overflow_cast-result
overflow_cast-result c =
    let rule = c.memory_rule.result in
    let lat = c.args.request.now.latencies in
    let block = c.args.job.now.block.now in
    let graph = c.in_ok-refill.ensures.graph in
    let counts = all_counted rule lat block c.in_ok-orders.orders
    (subst (λ (g : GraphOf). AreOrders g.rule g.latencies block.ops c.in_ok-orders.orders) graph c.in_ok-orders.ensures) in
    let small : least_under rule lat block.ops ≤ most_cycles =
    bound_small rule Chain lat block _ (counts.each Chain) c.args.job.now.short in
    rw (c.in_ok-least.ensures ∙ ap (λ (g : GraphOf). least_of_under g.rule g.latencies g.ops) graph) (omega (arith, small))

pub returns : goal.returns
returns c =
    let request = c.args.request.now in
    let rule = memory_rule request in
    let lat = request.latencies in
    let block = c.args.job.now.block.now in
    let graph = c.in_ok-refill.ensures.graph ∙ ap (λ rule. of_block rule lat block.ops) c.memory_rule.ensures in
    record {
      bound = c.in_ok-least.ensures ∙ ap (λ (g : GraphOf). least_of_under g.rule g.latencies g.ops) graph;
      sought = subst (λ (g : GraphOf). IsSoughtIf request.nodes g.rule g.latencies block.ops c.in_ok-sought.sought) graph
          c.in_ok-sought.ensures;
      counts = all_counted rule lat block c.in_ok-orders.orders
          (subst (λ (g : GraphOf). AreOrders g.rule g.latencies block.ops c.in_ok-orders.orders) graph c.in_ok-orders.ensures);
      own = c.in_ok-own.ensures rule lat block graph;
    }

pub returns-in_err-sought : goal.returns-in_err-sought
returns-in_err-sought c = grind (arith, common_steps)
