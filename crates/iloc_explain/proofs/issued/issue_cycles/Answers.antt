use Rattle.iloc_explain.proofs.Common.{◌≡◌, ◌<◌, ◌≤◌, length, ap, ◌∙◌, arith, issued_within, one_known, zero_known, row_at}
use Rattle.iloc_explain.specs.Steps.Issued.{with_slot}
use Rattle.iloc_explain.proofs.IssueCycles.{length-with_slot, row_issued, slot_known}
use Rattle.iloc_explain.proofs.issued.issue_cycles.Goals as goal

pub note-requires : goal.note-requires
note-requires c =
    rw c.rows-row-items.ensures.rows
    (slot_known _ _ _ c.loop-cycle.invariant.size (zero_known _ _ c.loop-cycle.cycle c.ops-ops.ensures.table))

pub note-requires-in-loop-cycle : goal.note-requires-in-loop-cycle
note-requires-in-loop-cycle c =
    rw c.rows-row-items.ensures.rows
    (slot_known _ _ _
    (ap length c.note.ensures ∙ (length-with_slot _ _ _ ∙ c.loop-cycle.invariant.size))
    (one_known _ _ c.loop-cycle.cycle c.ops-ops.ensures.table))

pub loop-cycle-preserved : goal.loop-cycle-preserved
loop-cycle-preserved c =
    let within : c.loop-cycle.cycle < length c.args.schedule.now.rows =
    rw c.rows-row-items.ensures.rows at c.loop-cycle-test.true in
    let both : c.note-in-loop-cycle.new.cycles.items
    ≡ with_slot (with_slot c.loop-cycle.cycles.items (row_at c.args.schedule.now.rows c.loop-cycle.cycle).zero c.loop-cycle.cycle)
    (row_at c.args.schedule.now.rows c.loop-cycle.cycle).one c.loop-cycle.cycle =
    rw (c.note.ensures, c.rows-row-items.ensures.rows) at c.note-in-loop-cycle.ensures in
    rw both (row_issued _ _ c.ops-ops.ensures.table _ within _ c.loop-cycle.invariant)

pub returns-clause-each : goal.returns-clause-each
returns-clause-each c = λ i within.
    let past : length c.args.schedule.now.rows ≤ c.loop-cycle.cycle =
    rw c.rows-row-items.ensures.rows at c.loop-cycle-test.false in
    let issued = issued_within _ _ i within c.ops-ops.ensures.table in
    c.loop-cycle.invariant.each i within (omega arith)
