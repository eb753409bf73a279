use Rattle.iloc_lint.proofs.Entries.{Has}
use Rattle.iloc_lint.proofs.listing.push_entries.Given as goal

abbrev pub invariant-loop-fault : goal.invariant-loop-fault
invariant-loop-fault l = Has l.faults l.fault-index l.initial.text.items l.text.items
