use Rattle.iloc_trace.proofs.Common.{◌≡◌, ◌+◌, ◌≤◌, true, false, [], ◌++◌, length, sym, refl, ap, ◌∙◌, subst, append-nil, arith, row_at, issued_before, trace_lines}
use Rattle.iloc_trace.specs.Steps.Rows.{Follows}
use Rattle.iloc_trace.proofs.WholeRuns.{ends_at_fault, follows_more, row_more_listed}
use Rattle.iloc_trace.proofs.tracer.Tracer.push_trace.Goals as goal

pub loop-cycle-init : goal.loop-cycle-init
loop-cycle-init c = record {
  first = c.restart.ensures.first ∙ c.self.view_is;
  lists = sym (append-nil c.args.text.now.items);
  follows = subst (λ memory. Follows c.args.latencies.now memory 0 [] c.restart.new.self) c.self.view_is
      (c.restart.ensures.follows c.args.latencies.now);
}

pub loop-cycle-preserved : goal.loop-cycle-preserved
loop-cycle-preserved c =
    let lat = c.args.latencies.now in
    let memory = c.args.self.now in
    let ops = c.args.schedule.now.ops in
    let rows = c.args.schedule.now.rows in
    let cycle = c.loop-cycle.cycle in
    let log = issued_before lat memory ops rows cycle in
    let lists = c.in_ok-run_row.ensures.lists memory log c.loop-cycle.invariant.follows in
    let after = rw c.if-not-branch.false at (c.in_ok-run_row.ensures.after memory log c.loop-cycle.invariant.follows) in
    record {
      first = c.run_row.ensures.first ∙ c.loop-cycle.invariant.first;
      lists = row_more_listed lat memory ops rows cycle (row_at rows cycle) c.args.text.now.items c.loop-cycle.text.items
          c.run_row.new.text.items refl c.loop-cycle.invariant.lists lists;
      follows = follows_more lat memory ops rows cycle (row_at rows cycle) true c.run_row.new.self refl after;
    }

pub returns-then-not-branch-clause-lists : goal.returns-then-not-branch-clause-lists
returns-then-not-branch-clause-lists c =
    let lat = c.args.latencies.now in
    let memory = c.args.self.now in
    let ops = c.args.schedule.now.ops in
    let rows = c.args.schedule.now.rows in
    let cycle = c.loop-cycle.cycle in
    let log = issued_before lat memory ops rows cycle in
    let lists = c.in_ok-run_row.ensures.lists memory log c.loop-cycle.invariant.follows in
    let after = rw c.if-not-branch.true at (c.in_ok-run_row.ensures.after memory log c.loop-cycle.invariant.follows) in
    let count : length c.rows.result.now ≡ length rows = ap length c.rows.ensures.rows in
    let within : cycle + 1 ≤ length rows + 16 = omega arith in
    row_more_listed lat memory ops rows cycle (row_at rows cycle) c.args.text.now.items c.loop-cycle.text.items
    c.run_row.new.text.items refl c.loop-cycle.invariant.lists lists
    ∙ ap (λ events. c.args.text.now.items ++ trace_lines events)
    (ends_at_fault lat memory ops rows (cycle + 1) (length rows + 16) within
    (follows_more lat memory ops rows cycle (row_at rows cycle) false c.run_row.new.self refl after))
