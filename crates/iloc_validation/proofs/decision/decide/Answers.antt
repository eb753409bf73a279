use Rattle.iloc_validation.proofs.Common.{◌≡◌, List, refl, IfOk-weaker, Op, Table, Latencies, without_nops, IsDecisionOf, Sides}
use Rattle.iloc_validation.specs.Decision.{IsDecision}
use Rattle.iloc_validation.specs.declared.decision.Decision.{Decision}
use Rattle.iloc_validation.specs.declared.decision.Decision.TheVariants.{Lawful, Unlawful, Undecided}
use Rattle.iloc_validation.proofs.InOrder.{lawful_count, lawful_in_order}
use Rattle.iloc_validation.proofs.decision.decide.Goals as goal

-- what is decided of both sides is decided of the block and the rows
of_sides : (sides : Sides) (lat : Latencies) (block : List Op) (theirs : Table) → sides.block.items ≡ without_nops block
    → sides.schedule.now ≡ theirs → sides.latencies.now ≡ lat → (decision : Decision) → IsDecisionOf sides decision
    → IsDecision lat block theirs.ops theirs.rows decision
of_sides sides lat block theirs own rows lats (Lawful pairing) is = rw (own, rows, lats) at is
of_sides sides lat block theirs own rows lats Unlawful is = λ book. is book.0 book.1 (rw (own, rows, lats) book.2)
of_sides sides lat block theirs own rows lats Undecided is = λ op. rw (own, rows) at (is op)

pub returns-then-issue_the_same-clause-right : goal.returns-then-issue_the_same-clause-right
returns-then-issue_the_same-clause-right c =
    c.in_ok-paired_by_slot.ensures c.args.latencies.now c.args.block.now.ops c.requires.lawful
    (c.issue_the_same.ensures.0 c.if-issue_the_same.true)

pub returns-then-issue_the_same-clause-own : goal.returns-then-issue_the_same-clause-own
returns-then-issue_the_same-clause-own c = λ same. (_, refl)

pub returns-then-issue_the_same-clause-lawful : goal.returns-then-issue_the_same-clause-lawful
returns-then-issue_the_same-clause-lawful c = λ lawful. (_, refl)

pub returns-in-Some-clause-lawful : goal.returns-in-Some-clause-lawful
returns-in-Some-clause-lawful c = λ lawful. (_, refl)

pub returns-clause-lawful : goal.returns-clause-lawful
returns-clause-lawful c = IfOk-weaker c.decided.result _ _ (λ decision is lawful.
    let lat = c.args.latencies.now in
    let block = c.args.block.now.ops in
    let schedule = c.args.theirs.now in
    let under = lawful_in_order lat block schedule.ops schedule.rows (λ k. k) (λ i. i) (λ k here. refl) (λ i here. refl) lawful in
    let count = lawful_count lat block schedule.ops schedule.rows lawful in
    let same = c.in_ok-sides.ensures in
    absurd (rw c.in-None.is at (c.in_ok-pairing.ensures.own
    (rw (same.block, same.rows, same.latencies) under) (rw (same.block, same.rows) count))))
    c.decided.ensures

pub returns-clause-right : goal.returns-clause-right
returns-clause-right c =
    let same = c.in_ok-sides.ensures in
    IfOk-weaker c.decided.result _ _ (of_sides c.in_ok-sides.sides c.args.latencies.now c.args.block.now.ops c.args.theirs.now
    same.block same.rows same.latencies) c.decided.ensures
