use Rattle.iloc_farm.proofs.Common.{◌+◌, ◌≤◌, length, arith, cycles, cycles_within}
use Rattle.iloc_rules.specs.declared.delay_pairs.TheConstants.{LONGEST_DELAY}
use Rattle.iloc_farm.proofs.farm.BlockJobsJobs.cost.Goals as goal

pub returns-clause-small : goal.returns-clause-small
returns-clause-small c =
    let schedule = c.args.schedule.now in
    let within : cycles c.self.inside.latencies schedule.ops schedule.rows ≤ length schedule.rows + LONGEST_DELAY =
    cycles_within c.self.inside.latencies schedule.ops schedule.rows in
    rw c.cycles.ensures (omega (arith, within, c.rows.ensures.few))
