use Rattle.std.proofs.lemmas.Result.{on_ok_weaker}
use Rattle.iloc_terms.proofs.Runs.Tracking.{keeps_issue}
use Rattle.iloc_terms.proofs.symbols.Symbols.issue.Goals as goal

pub returns : goal.returns
returns c = on_ok_weaker c.perform.result (λ records memory d meaning.
    let acts = c.in_ok-action.ensures memory d meaning in (
      acts.0,
      λ n log from upto keeps. keeps_issue memory d n c.args.due c.args.op.now log c.args.self.now c.perform.new.self
          c.in_ok-action.action c.defines.result c.defines.ensures acts.1 records from upto keeps,
    )) c.perform.ensures
