use Rattle.iloc_validation.proofs.Common.{◌<◌, IsStoredUntil}
use Rattle.iloc_validation.proofs.decision.under_way.is_under_way.Given as goal

abbrev pub invariant-loop-cycle : goal.invariant-loop-cycle
invariant-loop-cycle l =
    0 < l.until → IsStoredUntil l.latencies l.schedule.ops l.schedule.rows l.cycle l.until
