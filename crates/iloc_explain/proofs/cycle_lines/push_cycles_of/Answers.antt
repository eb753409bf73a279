use Rattle.iloc_explain.proofs.Common.{◌≡◌, ◌<◌, ◌++◌, length, ◌==◌, sym, ap, ◌∙◌, one_known, zero_known, IsKnown}
use Rattle.iloc_explain.specs.CycleLines.{line_from}
use Rattle.iloc_explain.proofs.NextReady.{issued_rows}
use Rattle.iloc_explain.proofs.ReadyLines.{idle_is, idle_next, lines_next, not_told, some_line}
use Rattle.iloc_explain.proofs.cycle_lines.push_cycles_of.Goals as goal
use Rattle.iloc_explain.proofs.cycle_lines.push_cycles_of.Goals.{then-not-is_skipped+in_ok-push_cycle, else-not-is_skipped}

pub push_cycle-requires-clause-known : goal.push_cycle-requires-clause-known
push_cycle-requires-clause-known c = (
  c.requires.0,
  c.requires.1,
  record {
    explained = c.args.explained.now;
    table = c.ops-ops.ensures.table;
    are = c.requires.2;
    is = c.in_ok-release.ensures c.args.explained.now c.loop-cycle.invariant.0;
  },
)

pub issue-requires-clause-zero : goal.issue-requires-clause-zero
issue-requires-clause-zero c =
    rw (c.rows-row-items.ensures.rows, c.requires.2.all) (zero_known _ _ c.loop-cycle.cycle c.ops-ops.ensures.table)

pub issue-requires-clause-one : goal.issue-requires-clause-one
issue-requires-clause-one c =
    rw (c.rows-row-items.ensures.rows, c.requires.2.all) (one_known _ _ c.loop-cycle.cycle c.ops-ops.ensures.table)

pub loop-cycle-preserved : goal.loop-cycle-preserved
loop-cycle-preserved c =
    let lat = c.args.subject.now.measures.now.delays.latencies.now in
    let ops = c.args.subject.now.schedule.now.ops in
    let rows = c.args.subject.now.schedule.now.rows in
    let es = c.args.explained.now in
    let table = c.ops-ops.ensures.table in
    let cycle = c.loop-cycle.cycle in
    let text = c.loop-cycle.text.items in
    let within : cycle < length rows = rw c.rows-row-items.ensures.rows at c.loop-cycle-test.true in
    let is = c.in_ok-release.ensures es c.loop-cycle.invariant.0 in
    let order = c.is_skipped.ensures.order in (
      c.issue.ensures cycle is (rw c.rows-row-items.ensures.rows (issued_rows c.requires.0 c.requires.1 lat ops rows table es c.requires.2 cycle within)),
      λ prios rule are.
          let known : IsKnown prios rule lat ops rows cycle c.release.new.self = record { explained = es; table = table; are = are; is = is } in
          let before = c.loop-cycle.invariant.1 prios rule are in
          let told : c.if-not-is_skipped.text.items ≡ text ++ line_from prios rule lat ops rows cycle = elim c.if-not-is_skipped.branch [
            | then-not-is_skipped+in_ok-push_cycle w ↦ rw w.text-is (w.in_ok-push_cycle.ensures prios rule known
                ∙ ap (λ xs. text ++ xs) (sym (some_line prios rule lat ops rows table c.release.new.self cycle known order within
                c.loop-cycle.was_idle before.0 (sym c.is_skipped.ensures.skipped ∙ w.if-not-is_skipped.true))))
            | else-not-is_skipped w ↦ rw w.text-is (not_told prios rule lat ops rows table c.release.new.self cycle known order within
                c.loop-cycle.was_idle text before.0 (sym c.is_skipped.ensures.skipped ∙ w.if-not-is_skipped.false))
          ] in (
            ap (λ n. n == 0) c.len-was_idle.ensures.count
                ∙ (idle_is prios rule lat ops rows table c.release.new.self cycle known c.len-was_idle.ensures.order within
                ∙ sym (idle_next prios rule lat ops rows cycle)),
            lines_next (line_from prios rule lat ops rows) cycle _ text c.if-not-is_skipped.text.items before.1 told,
          ),
    )
