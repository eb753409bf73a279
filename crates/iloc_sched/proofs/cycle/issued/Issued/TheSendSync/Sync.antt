-- A reference to it shows nothing, so it may go to another thread.
use denote.Param.Send.{IsSync, part_keyless}
use Rattle.iloc_sched.proofs.cycle.issued.Issued.TheSendSync.Send.{send}
use Rattle.iloc_sched.specs.contracts.cycle.issued.Issued.{the_row}

pub sync : IsSync the_row
sync = record { shared = λ d b o κ q. part_keyless the_row send q d b o }
