use Rattle.iloc_lint.proofs.Entries.{entry_added}
use Rattle.iloc_lint.proofs.listing.push_entries.Goals as goal

pub loop-fault-preserved : goal.loop-fault-preserved
loop-fault-preserved c =
    entry_added c.args.faults.now c.loop-fault.fault-index _ c.args.text.now.items c.loop-fault.text.items
    c.push_entry.new.text.items c.in_ok-push_entry.ensures.0 c.loop-fault-test.true c.loop-fault.invariant
    c.in_ok-push_entry.ensures.1 c.in_ok-push_entry.ensures.2
