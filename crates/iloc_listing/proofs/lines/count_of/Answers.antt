use Rattle.iloc_listing.proofs.Common.{◌+◌, ◌≤◌, length, arith, cycles}
use Rattle.iloc_listing.proofs.Schedules.{cycles_within}
use Rattle.iloc_listing.proofs.lines.count_of.Goals as goal

pub overflow_cast-result : goal.overflow_cast-result
overflow_cast-result c =
    let schedule = c.args.schedule.now in
    let within : cycles c.args.latencies.now schedule.ops schedule.rows ≤ length schedule.rows + 16 =
    cycles_within c.args.latencies.now schedule.ops schedule.rows in
    rw c.cycles.ensures (omega (arith, within, c.rows.ensures.few))
