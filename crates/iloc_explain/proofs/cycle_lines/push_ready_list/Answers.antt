use Rattle.iloc_explain.proofs.Common.{◌++◌, ap, ◌∙◌, append_assoc, on_ok_weaker, cycles}
use Rattle.iloc_explain.specs.CycleLines.{cycle_lines}
use Rattle.iloc_explain.specs.Explained.{AreExplained}
use Rattle.iloc_explain.specs.Listing.{cycles_line}
use Rattle.iloc_explain.proofs.cycle_lines.push_ready_list.Goals as goal

pub push_cycles_of-requires : goal.push_cycles_of-requires
push_cycles_of-requires c =
    (c.args.subject.now.measures.now.ranks.items, c.args.subject.now.measures.now.delays.rule, rw c.deref.ensures.value c.in_ok-explained.ensures)

pub returns : goal.returns
returns c =
    let schedule = c.args.subject.now.schedule.now in
    let measures = c.args.subject.now.measures.now in
    let lat = measures.delays.latencies.now in
    let lines = cycle_lines measures.ranks.items measures.delays.rule lat schedule.ops schedule.rows in
    let ending = cycles_line (cycles lat schedule.ops schedule.rows) measures.least in
    let are : AreExplained measures.ranks.items measures.delays.rule lat schedule.ops schedule.rows c.deref.result.now =
    rw c.deref.ensures.value c.in_ok-explained.ensures in
    on_ok_weaker c.push_cycles.result (λ pushed.
    (rw c.cycles-taken.ensures at pushed)
    ∙ (ap (λ xs. xs ++ ending) (c.in_ok-push_cycles_of.ensures measures.ranks.items measures.delays.rule are)
    ∙ append_assoc c.args.text.now.items lines ending)) c.push_cycles.ensures
