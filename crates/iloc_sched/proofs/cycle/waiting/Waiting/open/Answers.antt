use Rattle.iloc_sched.proofs.Common.{◌≡◌, ◌+◌, ◌-◌, ◌<◌, length, nat_eq, refl, ap, ◌∙◌, subst, arith, class_of, IsOpening, graph_of, OperationState, Waiting}
use Rattle.iloc_sched.proofs.Ranks.Calendars.{within_kept}
use Rattle.iloc_sched.proofs.Walking.FirstStates.{opening_none, opening_more, none_issued, all_opened, all_sized, all_calendar, none_ready}
use Rattle.iloc_sched.proofs.cycle.waiting.Waiting.open.Goals as goal

pub clear-requires : goal.clear-requires
clear-requires c = let short = c.args.plan.now.tables.now.edges.short in omega (arith, c.op_count-count.ensures)

pub loop-j-init : goal.loop-j-init
loop-j-init c = grind (arith, opening_none)

pub keep_out-requires : goal.keep_out-requires
keep_out-requires c = grind arith

pub put_if-requires : goal.put_if-requires
put_if-requires c = grind (arith, within_kept)

pub overflow_sub-end : goal.overflow_sub-end
overflow_sub-end c = grind arith

pub returns-clause-waits : goal.returns-clause-waits
returns-clause-waits c = grind (arith, all_opened)

pub returns-clause-sized : goal.returns-clause-sized
returns-clause-sized c = grind (arith, all_sized)

pub returns-clause-calendar : goal.returns-clause-calendar
returns-clause-calendar c =
    let p = c.args.plan.now in
    let at_end : c.loop-j.j ≡ length p.tables.now.edges.heads.items = omega (arith, c.op_count-count.ensures) in
    all_calendar p c.loop-j.self c.requires.plan (subst (λ n. IsOpening p c.loop-j.self n) at_end c.loop-j.invariant.opening)

pub returns-clause-none : goal.returns-clause-none
returns-clause-none c =
    let p = c.args.plan.now in
    let at_end : c.loop-j.j ≡ length p.tables.now.edges.heads.items = omega (arith, c.op_count-count.ensures) in
    none_issued p c.loop-j.self c.requires.plan (subst (λ n. IsOpening p c.loop-j.self n) at_end c.loop-j.invariant.opening)

pub returns-clause-ready : goal.returns-clause-ready
returns-clause-ready c =
    let p = c.args.plan.now in
    let at_end : c.loop-j.j ≡ length p.tables.now.edges.heads.items = omega (arith, c.op_count-count.ensures) in
    none_ready p c.loop-j.self c.requires.plan (subst (λ n. IsOpening p c.loop-j.self n) at_end c.loop-j.invariant.opening)

pub loop-j-preserved : goal.loop-j-preserved
loop-j-preserved c =
    let p = c.args.plan.now in
    let e = p.tables.now.edges in
    let j = c.loop-j.j in
    let state : OperationState = record { unmet = c.start-end.result - c.loop-j.place; earliest = 0 } in
    let at = c.loop-j.invariant.place in
    let unmet : c.start-end.result - c.loop-j.place ≡ (graph_of e).start (j + 1) - (graph_of e).start j =
    ap (λ n. n - c.loop-j.place) c.start-end.ensures ∙ ap (λ n. (graph_of e).start (j + 1) - n) at in
    let ready : nat_eq c.loop-j.place c.start-end.result ≡ nat_eq ((graph_of e).start j) ((graph_of e).start (j + 1)) =
    ap (λ n. nat_eq n c.start-end.result) at ∙ ap (λ n. nat_eq ((graph_of e).start j) n) c.start-end.ensures in
    let k = c.of-class.result in
    let v : Waiting = record { states = c.push_reserved.new.self; issued = c.loop-j.self.issued; calendar = c.put_if.new.self } in
    let below : j < length e.heads.items = omega (arith, c.op_count-count.ensures) in
    record {
      opening = opening_more p c.loop-j.self v c.keep_out.new.self j state c.requires.plan
          (subst (λ n. j < n) c.requires.plan.graph.size below)
          c.loop-j.invariant.opening c.push_reserved.ensures.items refl unmet refl k (c.of-class.ensures ∙ ap class_of c.kind_of.ensures)
          c.keep_out.ensures.puts
          c.keep_out.ensures.room (nat_eq c.loop-j.place c.start-end.result) ready
          c.put_if.ensures.puts c.put_if.ensures.room;
      short = c.loop-j.invariant.short;
      place = c.start-end.ensures;
      size = omega arith;
      capacity = omega arith;
    }
