use Rattle.iloc_trace.proofs.ReadOnTime.{lawful_reads_on_time}
use Rattle.iloc_trace.proofs.laws.lawful_schedules_read_on_time.Goals as goal

pub returns : goal.returns
returns c = lawful_reads_on_time
