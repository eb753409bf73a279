use Rattle.iloc_validation.proofs.Common.{◌≡◌, true, slice_index, sym, ◌∙◌, true≢false, arith}
use Rattle.iloc_validation.proofs.InOrder.{under_same}
use Rattle.iloc_validation.proofs.decision.in_order.Goals as goal

pub returns-else-branch-clause-own : goal.returns-else-branch-clause-own
returns-else-branch-clause-own c = λ under count.
    let pairing = c.in_ok-pairing.pairing in
    let yes : c.in_ok-is_schedule_under.field-0 ≡ true = c.in_ok-is_schedule_under.ensures.1
    (under_same c.args.sides.now.latencies.now c.args.sides.now.block.items c.args.sides.now.schedule.now.ops
    c.args.sides.now.schedule.now.rows (λ k. k) (λ i. i) (slice_index pairing.origin.items) (slice_index pairing.partner.items)
    (λ k here. c.in_ok-pairing.ensures.origin k (omega (arith, count)))
    (λ i here. c.in_ok-pairing.ensures.partner i (omega arith)) under) in
    absurd (true≢false (sym yes ∙ c.if-branch.false))
