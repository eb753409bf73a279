use Rattle.std.proofs.Common.{◌≡◌, ◌≤◌, ◌∙◌, true, length, take_all, arith, ap, subst}
use Rattle.iloc_timed.specs.Timed.{issued_before, timed_outcome}
use Rattle.iloc_timed.specs.RowByRow.{HasRun}
use Rattle.iloc_timed.specs.Steps.Machine.{After}
use Rattle.iloc_timed.proofs.Arrivals.{zero_known, one_known}
use Rattle.iloc_timed.proofs.WholeRuns.{ends}
use Rattle.iloc_timed.proofs.machine.Machine.run.Goals as goal

pub take_row-requires-clause-zero : goal.take_row-requires-clause-zero
take_row-requires-clause-zero c =
    rw (c.ops-ops.ensures.ops, c.rows-rows.ensures.rows) (zero_known _ _ c.loop-cycle.cycle c.ops-ops.ensures.table)

pub take_row-requires-clause-one : goal.take_row-requires-clause-one
take_row-requires-clause-one c =
    rw (c.ops-ops.ensures.ops, c.rows-rows.ensures.rows) (one_known _ _ c.loop-cycle.cycle c.ops-ops.ensures.table)

pub loop-cycle-init : goal.loop-cycle-init
loop-cycle-init c = record { first = c.begin.ensures.first; ran = λ lat same. c.begin.ensures.ran lat c.args.schedule.now.ops }

pub returns-clause-outcome : goal.returns-clause-outcome
returns-clause-outcome c = λ lat same.
    let rows = c.args.schedule.now.rows in
    let ops = c.args.schedule.now.ops in
    let count : length c.rows-rows.result.now ≡ length c.args.schedule.now.rows = ap length c.rows-rows.ensures.rows in
    let past : length c.rows-rows.result.now ≤ c.loop-cycle.cycle = c.loop-cycle-test.false in
    let ran : HasRun lat ops rows c.loop-cycle.self =
    subst (λ rs. HasRun lat ops rs c.loop-cycle.self) (take_all c.loop-cycle.cycle rows (omega arith)) (c.loop-cycle.invariant.ran lat same) in
    let on : c.loop-cycle.self.state.finished ≡ true = grind arith in
    ends lat ops rows (length c.rows-rows.result.now) c.loop-cycle.self c.land_rest.new.self count
    (subst (λ b. After b c.loop-cycle.self.state.memory.first (length rows)
    (issued_before lat c.loop-cycle.self.state.memory.first ops rows (length rows)) c.loop-cycle.self) on ran) c.in_ok-land_rest.ensures.follows
    ∙ ap (timed_outcome lat ops rows) c.loop-cycle.invariant.first
