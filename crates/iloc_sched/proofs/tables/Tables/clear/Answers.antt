use Rattle.iloc_sched.proofs.Common.{◌≡◌, [], map, length, sym, ap, ◌∙◌, subst, arith, kind, latency, Book, IsLasts, IsPartialGraph, graph_of}
use Rattle.iloc_sched.proofs.tables.Tables.clear.Goals as goal

pub returns-clause-filling : goal.returns-clause-filling
returns-clause-filling c =
    let ops : c.reserve.new.self.items ≡ [] = c.in_ok-reserve.ensures.items ∙ c.clear.ensures.items in
    let kinds : c.reserve-2.new.self.items ≡ [] = c.in_ok-reserve-2.ensures.items ∙ c.clear-2.ensures.items in
    let own : c.reserve-3.new.self.items ≡ [] = c.in_ok-reserve-3.ensures.items ∙ c.clear-3.ensures.items in
    let none : length c.reserve.new.self.items ≡ 0 = ap length ops in
    record {
      kinds = kinds ∙ ap (map kind) (sym ops);
      own = own ∙ ap (map (latency c.args.self.now.latencies)) (sym ops);
      partial = subst (λ n. IsPartialGraph Book c.args.self.now.latencies c.reserve.new.self.items (graph_of c.empty.new.self) n)
          (sym none) (c.in_ok-empty.ensures.partial Book c.args.self.now.latencies c.reserve.new.self.items none);
      known = subst (λ n. IsLasts c.reserve.new.self.items c.clear-4.new.self n) (sym none)
          (c.clear-4.ensures.lasts c.reserve.new.self.items);
      starts = omega (arith, c.in_ok-empty.ensures.starts);
      count = omega (arith, c.in_ok-empty.ensures.edges, c.clear-4.ensures.loads);
    }
