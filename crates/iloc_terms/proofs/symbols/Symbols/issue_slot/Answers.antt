use Rattle.std.proofs.lemmas.Result.{on_ok_weaker}
use Rattle.iloc_terms.proofs.Runs.Rows.{keeps_slot}
use Rattle.iloc_terms.proofs.symbols.Symbols.issue_slot.Goals as goal

pub returns-in-Some : goal.returns-in-Some
returns-in-Some c = on_ok_weaker c.issue.result (λ says memory d meaning.
    let issued = says memory d meaning in (
      issued.0,
      keeps_slot memory d c.args.latencies.now c.args.ops.now c.args.cycle c.in-Some.i c.latency.result c.args.slot _
          c.args.self.now c.issue.new.self c.in-Some.is c.requires.known c.latency.ensures.latency
          c.latency.ensures.within issued.1,
    )) c.issue.ensures
