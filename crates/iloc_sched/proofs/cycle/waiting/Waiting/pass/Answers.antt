use Rattle.iloc_sched.proofs.Common.{◌≡◌, ℕ, ◌+◌, ◌-◌, ◌%◌, ◌<◌, max, ◌&&◌, ◌||◌, length, is_some, if◌then◌else◌, nat_eq, unwrap_or, refl, ap, ◌∙◌, subst, arith, from_bool, KeepsRoom, Puts, has, rank_of, edge_at, graph_of, progress_of, Calendar, Waiting, Edge}
use Rattle.iloc_sched.proofs.Ranks.Calendars.{calendar_put, puts_as}
use Rattle.iloc_sched.proofs.Walking.EdgeOrNone.{edge_there, some_left, places_after, walks_on}
use Rattle.iloc_sched.proofs.cycle.waiting.Waiting.pass.Goals as goal
use Rattle.iloc_sched.proofs.cycle.waiting.Waiting.pass.Goals.{then-some, else-some, then-some-2, else-some-2}

edge_is : (c : goal.After-put_if) → c.get-edge.result ≡ edge_at c.args.plan.now.tables.now.edges (unwrap_or c.args.at 0)
edge_is c = c.get-edge.ensures ∙ ap (edge_at c.args.plan.now.tables.now.edges) c.unwrap_or.ensures

less : (c : goal.After-put_if) → c.index-state.result.now.unmet - c.from.result ≡ c.index-state.result.now.unmet - from_bool (is_some c.args.at)
less c = grind arith

until : (c : goal.After-put_if) → c.max-earliest.result
    ≡ max c.index-state.result.now.earliest (if is_some c.args.at then c.args.cycle + c.get-edge.result.delay else 0)
until c = elim c.if-some.branch [
  | then-some k ↦ grind arith
  | else-some k ↦ grind arith
]

ready : (c : goal.After-put_if) → c.if-some-2.put_if ≡ (is_some c.args.at && nat_eq (c.index-state.result.now.unmet - c.from.result) 0)
ready c = elim c.if-some-2.branch [
  | then-some-2 k ↦ grind arith
  | else-some-2 k ↦ grind arith
]

pub overflow_sub-unmet : goal.overflow_sub-unmet
overflow_sub-unmet c = grind (arith, some_left)

pub returns-clause-walks : goal.returns-clause-walks
returns-clause-walks c =
    let p = c.args.plan.now in
    let w = c.args.self.now in
    let v : Waiting = record { states = c.change.new.self.states; issued = c.change.new.self.issued; calendar = c.put_if.new.self } in
    let t : ℕ = c.max-earliest.result in
    let j : ℕ = c.get-edge.result.to in
    walks_on p w c.args.cycle c.get-edge.result c.index-state.result.now c.requires.plan c.requires.sized c.index-state.ensures
    v (c.index-state.result.now.unmet - c.from.result) t c.requires.some c.change.ensures.issued c.change.ensures.unmet
    c.change.ensures.earliest c.args.at c.requires.walks (edge_is c) (less c) (until c)
    (subst (λ b. Puts w.calendar c.put_if.new.self (t % 32) (rank_of p j) (b || has w.calendar (t % 32) (rank_of p j))) (ready c)
    (puts_as c.change.new.self.calendar w.calendar c.put_if.new.self (t % 32) (rank_of p j) (rank_of p j) c.if-some-2.put_if
    c.change.ensures.calendar refl c.put_if.ensures.puts))

pub returns-clause-keeps : goal.returns-clause-keeps
returns-clause-keeps c =
    let v : Waiting = record { states = c.change.new.self.states; issued = c.change.new.self.issued; calendar = c.put_if.new.self } in
    places_after c.args.plan.now c.args.self.now c.args.cycle c.get-edge.result c.index-state.result.now c.requires.plan
    c.requires.sized c.index-state.ensures v (c.index-state.result.now.unmet - c.from.result) c.max-earliest.result c.requires.some
    c.change.ensures.issued c.change.ensures.unmet c.change.ensures.earliest c.args.at c.requires.walks (edge_is c) (less c) (until c)

pub returns-clause-calendar : goal.returns-clause-calendar
returns-clause-calendar c =
    let p = c.args.plan.now in
    let e = p.tables.now.edges in
    let w = c.args.self.now in
    let t : ℕ = c.max-earliest.result in
    let x : ℕ = unwrap_or c.args.at 0 in
    let there : x < length e.edges.items =
    edge_there (graph_of e) (progress_of p.ranks.now w) c.args.cycle c.args.at c.requires.some c.requires.walks in
    let below : (graph_of e).to x < length e.heads.items = (c.requires.plan.graph.is_graph.to_there x there).0 in
    calendar_put p c.requires.plan w.calendar c.put_if.new.self c.requires.calendar (t % 32) ((graph_of e).to x) _ (omega arith)
    (subst (λ n. (graph_of e).to x < n) c.requires.plan.graph.size below)
    (puts_as c.change.new.self.calendar w.calendar c.put_if.new.self (t % 32) (rank_of p c.get-edge.result.to)
    (rank_of p ((graph_of e).to x)) c.if-some-2.put_if c.change.ensures.calendar (ap (λ (d : Edge). rank_of p d.to) (edge_is c))
    c.put_if.ensures.puts)
    (subst (λ (k : Calendar). KeepsRoom k c.put_if.new.self) c.change.ensures.calendar c.put_if.ensures.room)

pub returns-clause-ready : goal.returns-clause-ready
returns-clause-ready c = grind arith
