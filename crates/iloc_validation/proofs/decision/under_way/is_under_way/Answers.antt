use Rattle.iloc_validation.proofs.Common.{◌+◌, ◌<◌, sym, ◌∙◌, inl, inr, arith, IsStoredUntil}
use Rattle.iloc_validation.proofs.StoresUnderWay.{row_stored, row_reads}
use Rattle.iloc_validation.proofs.decision.under_way.is_under_way.Goals.{then-issues_store, else-issues_store}
use Rattle.iloc_validation.proofs.decision.under_way.is_under_way.Goals as goal

pub returns-then-issues_load_or_output : goal.returns-then-issues_load_or_output
returns-then-issues_load_or_output c = λ yes.
    let lat = c.args.latencies.now in
    let schedule = c.args.schedule.now in
    let some : 0 < c.if-issues_store.until = omega (arith, c.if-cycle-until.true) in
    let stored : IsStoredUntil lat schedule.ops schedule.rows (c.loop-cycle.cycle + 1) c.if-issues_store.until =
    elim c.if-issues_store.branch [
      | then-issues_store w ↦ row_stored lat schedule.ops schedule.rows c.ops-ops.ensures.table c.loop-cycle.cycle
          c.loop-cycle.until c.if-issues_store.until c.loop-cycle.invariant (inl (
            w.until-is,
            rw (c.ops-ops.ensures.ops, c.rows-row-items.ensures.rows) at (sym c.issues_store.ensures ∙ w.if-issues_store.true),
          )) some
      | else-issues_store w ↦ row_stored lat schedule.ops schedule.rows c.ops-ops.ensures.table c.loop-cycle.cycle
          c.loop-cycle.until c.if-issues_store.until c.loop-cycle.invariant (inr w.until-is) some
    ] in
    row_reads lat schedule.ops schedule.rows c.ops-ops.ensures.table c.loop-cycle.cycle c.if-issues_store.until
    c.if-cycle-until.true stored
    (rw (c.ops-ops.ensures.ops, c.rows-row-items.ensures.rows) at
    (sym c.issues_load_or_output.ensures ∙ c.if-issues_load_or_output.true))

pub loop-cycle-preserved : goal.loop-cycle-preserved
loop-cycle-preserved c = λ some.
    let lat = c.args.latencies.now in
    let schedule = c.args.schedule.now in
    elim c.if-issues_store.branch [
      | then-issues_store w ↦ row_stored lat schedule.ops schedule.rows c.ops-ops.ensures.table c.loop-cycle.cycle
          c.loop-cycle.until c.if-issues_store.until c.loop-cycle.invariant (inl (
            w.until-is,
            rw (c.ops-ops.ensures.ops, c.rows-row-items.ensures.rows) at (sym c.issues_store.ensures ∙ w.if-issues_store.true),
          )) some
      | else-issues_store w ↦ row_stored lat schedule.ops schedule.rows c.ops-ops.ensures.table c.loop-cycle.cycle
          c.loop-cycle.until c.if-issues_store.until c.loop-cycle.invariant (inr w.until-is) some
    ]
