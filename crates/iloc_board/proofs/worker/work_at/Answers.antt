use Rattle.iloc_board.proofs.Common.{◌≡◌, ap, BoardView}
use Rattle.iloc_board.proofs.Claims as claims
use Rattle.iloc_board.proofs.worker.work_at.Goals as goal

pub loop-job-init : goal.loop-job-init
loop-job-init g c = claims.between_first (g.J.Jobs.number c.args.board.now.jobs) (g.J.Jobs.fits c.args.board.now.jobs)
    (g.J.Jobs.price c.args.board.now.jobs) c.args.board.now c.args.pass.now c.requires.own c.requires.free

pub returns-in_err-answer-clause-runs : goal.returns-in_err-answer-clause-runs
returns-in_err-answer-clause-runs g c = claims.runs_to (g.J.Jobs.number c.args.board.now.jobs) _ _ c.args.board.now
    c.args.pass.now c.loop-job.pass c.claim.new.pass c.requires.free c.loop-job.invariant c.in-Some.ensures.claimed.0

pub returns-in_err-answer-clause-answers : goal.returns-in_err-answer-clause-answers
returns-in_err-answer-clause-answers g c =
    claims.hands_same _ _ _ _ _ c.loop-job.invariant.hands c.in-Some.ensures.nothing

pub returns-in_err-hand_back-clause-runs : goal.returns-in_err-hand_back-clause-runs
returns-in_err-hand_back-clause-runs g c =
    claims.runs_same (g.J.Jobs.number c.args.board.now.jobs) _ _ c.args.board.now c.args.pass.now c.loop-job.pass
    c.claim.new.pass c.hand_back.new.pass c.requires.free c.loop-job.invariant c.in-Some.ensures.claimed.0
    c.in_err-hand_back.ensures.err.0

pub returns-in_err-hand_back-clause-answers : goal.returns-in_err-hand_back-clause-answers
returns-in_err-hand_back-clause-answers g c =
    claims.hands_equal _ _ _ _ _ (claims.hands_same _ _ _ _ _ c.loop-job.invariant.hands c.in-Some.ensures.nothing)
    c.in_err-hand_back.ensures.err.0

pub loop-job-smaller : goal.loop-job-smaller
loop-job-smaller g c = claims.between_falls (g.J.Jobs.number c.args.board.now.jobs) c.loop-job.pass c.claim.new.pass
    c.hand_back.new.pass c.in-Some.job _ _ c.in-Some.ensures.claimed.0 c.in-Some.ensures.claimed.1
    c.in-Some.ensures.claimed.2 c.in_ok-hand_back.ensures.ok

pub loop-job-preserved : goal.loop-job-preserved
loop-job-preserved g c =
    let jobs : c.board.inside.jobs.now ≡ c.args.board.now.jobs =
    ap (λ (v : BoardView g.row.J.Denot). v.jobs) c.board.view_is in
    let fit = rw jobs at c.in_ok-answer.ensures in
    claims.between_on (g.J.Jobs.number c.args.board.now.jobs) (g.J.Jobs.fits c.args.board.now.jobs)
    (g.J.Jobs.price c.args.board.now.jobs) c.args.board.now c.args.pass.now c.loop-job.pass c.claim.new.pass
    c.hand_back.new.pass c.in-Some.job
    c.in_ok-answer.answer c.loop-job.invariant c.in-Some.ensures.claimed.0 c.in-Some.ensures.nothing
    c.in-Some.ensures.claimed.1 c.in-Some.ensures.claimed.2 c.in-Some.ensures.own fit c.in_ok-hand_back.ensures.ok

pub returns-clause-runs : goal.returns-clause-runs
returns-clause-runs g c = claims.runs_out (g.J.Jobs.number c.args.board.now.jobs) _ _ c.args.board.now c.args.pass.now
    c.loop-job.pass c.claim.new.pass c.requires.free c.loop-job.invariant c.in_default.ensures.claimed.0

pub returns-clause-answers : goal.returns-clause-answers
returns-clause-answers g c = claims.hands_same _ _ _ _ _ c.loop-job.invariant.hands c.in_default.ensures.nothing
