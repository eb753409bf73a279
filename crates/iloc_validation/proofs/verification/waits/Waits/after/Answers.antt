use Rattle.iloc_validation.proofs.Common.{◌+◌, max, map, fold, ap, ◌∙◌, memory_by, wait_of}
use Rattle.iloc_validation.proofs.EarliestCycles.{wait_of-noted}
use Rattle.iloc_validation.proofs.verification.waits.Waits.after.Goals as goal

pub returns : goal.returns
returns c = λ k.
    ap (λ w. wait_of w k) c.note.ensures
    ∙ wait_of-noted c.args.latencies.now c.args.kind c.args.cycle c.none-waits.result k
    ∙ ap (λ n. fold max n (map (λ d. c.args.cycle + d) (memory_by c.args.latencies.now c.args.kind k))) (c.none-waits.ensures k)
