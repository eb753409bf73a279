use Rattle.iloc_terms.proofs.Common.{◌+◌, subst, on_ok_weaker, row_issued}
use Rattle.iloc_terms.specs.Steps.Tracking.{Keeps}
use Rattle.iloc_terms.proofs.symbols.Symbols.run_row.Goals as goal

pub returns : goal.returns
returns c = on_ok_weaker c.issue_slot-2.result (λ says memory d meaning.
    let second = says memory d meaning in
    let first = c.in_ok-issue_slot.ensures memory d second.0 in
    let landed = c.in_ok-land.ensures memory d first.0 in (
      landed.0,
      λ log keeps. subst (λ l. Keeps memory d (c.args.cycle + 1) l c.issue_slot-2.new.self)
          (row_issued c.args.latencies.now memory c.args.ops.now c.args.cycle c.args.row log)
          (second.1 _ (first.1 log (landed.1 log keeps))),
    )) c.issue_slot-2.ensures
