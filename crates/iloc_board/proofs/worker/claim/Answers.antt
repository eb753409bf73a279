use Rattle.std.proofs.Common.{refl}
use Rattle.iloc_board.proofs.Claims as claims
use Rattle.iloc_board.proofs.worker.claim.Goals as goal

pub returns-in_default-clause-claimed : goal.returns-in_default-clause-claimed
returns-in_default-clause-claimed g c = claims.none_claims (g.J.Jobs.number c.args.board.now.jobs) _ _ _
    c.in_default.ensures.step c.requires.free

pub loop-job-init : goal.loop-job-init
loop-job-init g c = claims.looks_first (g.J.Jobs.number c.args.board.now.jobs) c.args.board.now _ _ _ c.in-Block.job
    c.requires.own c.in-Block.ensures.step c.requires.free c.in-Block.ensures.fresh.0 c.in-Block.ensures.fresh.1

pub returns-in-Took-clause-claimed : goal.returns-in-Took-clause-claimed
returns-in-Took-clause-claimed g c = claims.took_claims (g.J.Jobs.number c.args.board.now.jobs) c.args.board.now _ _ _ _
    c.in-Took.job c.loop-job.invariant c.in-Took.ensures.step c.in-Took.ensures.fresh.1

pub loop-job-smaller : goal.loop-job-smaller
loop-job-smaller g c = claims.tries_fall (g.J.Jobs.number c.args.board.now.jobs) c.args.board.now c.args.pass.now _ _ _
    _ c.loop-job.invariant c.in-Stale.ensures.step c.in-Stale.ensures.fresh.1 c.in-Stale.ensures.fresh.2

pub loop-job-preserved : goal.loop-job-preserved
loop-job-preserved g c = claims.tries_on (g.J.Jobs.number c.args.board.now.jobs) c.args.board.now c.args.pass.now _ _ _
    _ c.loop-job.invariant c.in-Stale.ensures.step c.in-Stale.ensures.fresh.1 c.in-Stale.ensures.fresh.2

pub returns-in-NoneLeft-clause-claimed : goal.returns-in-NoneLeft-clause-claimed
returns-in-NoneLeft-clause-claimed g c = claims.late_claims (g.J.Jobs.number c.args.board.now.jobs) c.args.board.now _ _
    _ _ c.loop-job.invariant c.in-NoneLeft.ensures.step

pub returns-in_default-clause-nothing : goal.returns-in_default-clause-nothing
returns-in_default-clause-nothing g c = claims.hands_nothing (g.J.Jobs.number c.args.board.now.jobs) _ _ _ _ _
    (claims.hands_none _) c.in_default.ensures.step refl

pub returns-in-Took-clause-nothing : goal.returns-in-Took-clause-nothing
returns-in-Took-clause-nothing g c = claims.hands_nothing (g.J.Jobs.number c.args.board.now.jobs) _ _ _ _ _
    c.loop-job.invariant.nothing c.in-Took.ensures.step refl

pub returns-in-NoneLeft-clause-nothing : goal.returns-in-NoneLeft-clause-nothing
returns-in-NoneLeft-clause-nothing g c = claims.hands_nothing (g.J.Jobs.number c.args.board.now.jobs) _ _ _ _ _
    c.loop-job.invariant.nothing c.in-NoneLeft.ensures.step refl
