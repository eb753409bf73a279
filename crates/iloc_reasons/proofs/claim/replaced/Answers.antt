use Rattle.iloc_reasons.proofs.Common.{◌≡◌, Some, sym, ◌∙◌, source_at}
use Rattle.iloc_reasons.proofs.Claims.{replaced_fact}
use Rattle.iloc_reasons.proofs.claim.replaced.Goals as goal

pub returns : goal.returns
returns c =
    let source : source_at c.in_ok-reading.reading.sources c.args.place ≡ Some c.in_ok-j.j = sym c.source_at.ensures ∙ c.in_ok-j.was in
    replaced_fact c.args.sides.now.latencies.now c.args.sides.now.block.items c.args.sides.now.schedule.now.ops
    c.args.sides.now.schedule.now.rows c.args.k c.in_ok-j.j c.in_ok-issue.issue c.in_ok-from.from c.in_ok-register.register
    c.args.place c.in_ok-reading.reading c.in_ok-lost.lost c.in_ok-issue.ensures.is c.in_ok-from.ensures.is c.in_ok-register.ensures
    c.in_ok-reading.ensures.is source c.in_ok-lost.ensures
