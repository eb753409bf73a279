use Rattle.iloc_validation.proofs.Common.{◌≡◌, ◌<◌, length, sym, refl, ap, ◌∙◌, true≢false, arith}
use Rattle.iloc_validation.proofs.SameRows.{each_there, issue_each}
use Rattle.iloc_validation.proofs.decision.ours.issue_the_same.Goals as goal

pub returns-then-not-are_alike : goal.returns-then-not-are_alike
returns-then-not-are_alike c = (
  λ no. absurd (true≢false (sym no)),
  λ same.
      let within : c.loop-c.c < length c.args.theirs.now.rows = rw c.rows-c-end.ensures.rows at c.loop-c-test.true in
      let yes = c.are_alike.ensures.1 (rw (
        c.ops.ensures.ops,
        c.rows-in-loop-c.ensures.rows,
        c.ops-in-loop-c.ensures.ops,
        c.rows-in-loop-c-2.ensures.rows,
      )
      (each_there c.args.ours.now.ops c.args.theirs.now.ops c.args.ours.now.rows c.args.theirs.now.rows c.loop-c.c _
      within same)) in
      absurd (true≢false (sym yes ∙ c.if-not-are_alike.true)),
)

pub returns : goal.returns
returns c = (
  λ yes.
      let long : length c.args.ours.now.rows ≡ length c.args.theirs.now.rows =
      omega (arith, ap length c.rows.ensures.rows, ap length c.rows-2.ensures.rows) in
      issue_each c.args.ours.now.ops c.args.theirs.now.ops c.args.ours.now.rows c.args.theirs.now.rows long
      (λ b within. c.loop-c.invariant b (omega (arith, ap length c.rows-c-end.ensures.rows))),
  λ same. refl,
)
