use Rattle.iloc_terms.proofs.Common.{◌≡◌, ◌≤◌, length, ap, arith, one_known, zero_known, issued_before}
use Rattle.iloc_terms.proofs.Runs.Rows.{keeps_more, ends}
use Rattle.iloc_terms.proofs.symbols.Symbols.of.Goals as goal

pub run_row-requires-clause-zero : goal.run_row-requires-clause-zero
run_row-requires-clause-zero c =
    rw (c.ops-ops.ensures.ops, c.rows-rows.ensures.rows) (zero_known _ _ c.loop-cycle.cycle c.ops-ops.ensures.table)

pub run_row-requires-clause-one : goal.run_row-requires-clause-one
run_row-requires-clause-one c =
    rw (c.ops-ops.ensures.ops, c.rows-rows.ensures.rows) (one_known _ _ c.loop-cycle.cycle c.ops-ops.ensures.table)

pub loop-cycle-preserved : goal.loop-cycle-preserved
loop-cycle-preserved c = λ memory d meaning.
    let row = c.in_ok-run_row.ensures memory d meaning in
    let before = c.loop-cycle.invariant memory d row.0 in (
      before.0,
      keeps_more c.args.latencies.now memory d c.args.schedule.now.ops c.args.schedule.now.rows c.loop-cycle.cycle _
          (rw (c.ops-ops.ensures.ops, c.rows-rows.ensures.rows) at
          (row.1 (issued_before c.args.latencies.now memory c.args.schedule.now.ops c.args.schedule.now.rows
          c.loop-cycle.cycle) before.1)),
    )

pub returns : goal.returns
returns c =
    let past : length c.args.schedule.now.rows ≤ c.loop-cycle.cycle =
    rw c.rows-rows.ensures.rows at c.loop-cycle-test.false in
    let within : c.loop-cycle.cycle ≤ length c.args.schedule.now.rows =
    rw c.rows-rows.ensures.rows at c.loop-cycle.auto.cycle-end in
    let count : length c.rows-rows.result.now ≡ length c.args.schedule.now.rows = ap length c.rows-rows.ensures.rows in
    let last : c.loop-cycle.cycle ≡ length c.args.schedule.now.rows = omega arith in
    λ memory d meaning.
    let rest = c.in_ok-land_rest.ensures memory d meaning in
    let before = c.loop-cycle.invariant memory d rest.0 in (
      before.0,
      ends c.args.latencies.now memory d c.args.schedule.now.ops c.args.schedule.now.rows c.loop-cycle.cycle
          (length c.rows-rows.result.now) c.loop-cycle.symbols c.land_rest.new.self last count before.1 rest.1,
    )
