use Rattle.iloc_board.proofs.Common.{◌≡◌, ◌<◌, length, take, sym, ap, ◌∙◌, arith, Core, final}
use Rattle.iloc_board.proofs.Runs.{length-costs_final, shows_more, told_more}
use Rattle.iloc_board.proofs.Laws.{legal, once, ends_alike, exact_play, within_final}
use Rattle.iloc_board.proofs.core_steps.play.Goals as goal

pub step-requires-clause-costs : goal.step-requires-clause-costs
step-requires-clause-costs c = ap length c.loop-step.invariant.shows.costs_are
    ∙ (length-costs_final c.args.count (take c.loop-step.step-index c.args.steps.now) ∙ sym c.loop-step.invariant.same)

pub step-requires-clause-within : goal.step-requires-clause-within
step-requires-clause-within c = λ q.
    rw (c.loop-step.invariant.shows.states_are q)
    (rw c.loop-step.invariant.same
    (within_final c.args.count (take c.loop-step.step-index c.args.steps.now) q))

pub loop-step-preserved : goal.loop-step-preserved
loop-step-preserved c =
    let so_far : Core = final c.args.count (take c.loop-step.step-index c.args.steps.now) in
    let made = c.in_ok-reply.ensures so_far c.loop-step.invariant.shows in
    let here : c.loop-step.step-index < length c.args.steps.now = omega arith in
    let same : c.loop-step.core.count ≡ c.args.count = c.loop-step.invariant.same in
    record {
      same = made.1 ∙ same;
      shows = shows_more c.args.count _ c.args.steps.now c.loop-step.step-index _ here same _ _ _ made.2;
      told = c.in_ok-push.ensures.items ∙ told_more c.args.count _ c.args.steps.now c.loop-step.step-index _ here same _
          _ c.loop-step.invariant.told made.0;
    }

pub returns-in_err-vec-clause-exact : goal.returns-in_err-vec-clause-exact
returns-in_err-vec-clause-exact c = exact_play c.args.count c.args.steps.now

pub returns-in_err-vec-clause-legal : goal.returns-in_err-vec-clause-legal
returns-in_err-vec-clause-legal c = legal c.args.count c.args.steps.now

pub returns-in_err-vec-clause-once : goal.returns-in_err-vec-clause-once
returns-in_err-vec-clause-once c = once c.args.count c.args.steps.now

pub returns-in_err-vec-clause-ends : goal.returns-in_err-vec-clause-ends
returns-in_err-vec-clause-ends c = ends_alike c.args.count c.args.steps.now

pub returns-in_err-reply-clause-exact : goal.returns-in_err-reply-clause-exact
returns-in_err-reply-clause-exact c = exact_play c.args.count c.args.steps.now

pub returns-in_err-reply-clause-legal : goal.returns-in_err-reply-clause-legal
returns-in_err-reply-clause-legal c = legal c.args.count c.args.steps.now

pub returns-in_err-reply-clause-once : goal.returns-in_err-reply-clause-once
returns-in_err-reply-clause-once c = once c.args.count c.args.steps.now

pub returns-in_err-reply-clause-ends : goal.returns-in_err-reply-clause-ends
returns-in_err-reply-clause-ends c = ends_alike c.args.count c.args.steps.now

pub returns-in_err-push-clause-exact : goal.returns-in_err-push-clause-exact
returns-in_err-push-clause-exact c = exact_play c.args.count c.args.steps.now

pub returns-in_err-push-clause-legal : goal.returns-in_err-push-clause-legal
returns-in_err-push-clause-legal c = legal c.args.count c.args.steps.now

pub returns-in_err-push-clause-once : goal.returns-in_err-push-clause-once
returns-in_err-push-clause-once c = once c.args.count c.args.steps.now

pub returns-in_err-push-clause-ends : goal.returns-in_err-push-clause-ends
returns-in_err-push-clause-ends c = ends_alike c.args.count c.args.steps.now

pub returns-clause-exact : goal.returns-clause-exact
returns-clause-exact c = exact_play c.args.count c.args.steps.now

pub returns-clause-legal : goal.returns-clause-legal
returns-clause-legal c = legal c.args.count c.args.steps.now

pub returns-clause-once : goal.returns-clause-once
returns-clause-once c = once c.args.count c.args.steps.now

pub returns-clause-ends : goal.returns-clause-ends
returns-clause-ends c = ends_alike c.args.count c.args.steps.now
