use Rattle.iloc_listing.proofs.Common.{◌≡◌, ◌+◌, ◌++◌, drop, entries, schedule_entry, total_cycles}
use Rattle.iloc_listing.proofs.lines.schedules_text.Given as goal

abbrev pub invariant-loop-index : goal.invariant-loop-index
invariant-loop-index l = record {
  listed : l.text.items ++ entries (schedule_entry l.latencies) (l.index + 1) (drop l.index l.file.blocks)
      (drop l.index l.schedules)
      ≡ entries (schedule_entry l.latencies) 1 l.file.blocks l.schedules;
  counted : l.total + total_cycles l.latencies (drop l.index l.schedules) ≡ total_cycles l.latencies l.schedules;
}
