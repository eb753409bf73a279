use Rattle.iloc_board.specs.Steps.Course.{left}
use Rattle.iloc_board.proofs.Claims.{IsBetween}
use Rattle.iloc_board.proofs.worker.work_at.Given as goal

abbrev pub invariant-loop-job : goal.invariant-loop-job
invariant-loop-job g l = IsBetween (g.J.Jobs.number l.board.jobs) (g.J.Jobs.fits l.board.jobs)
    (g.J.Jobs.price l.board.jobs) l.board l.fn.pass l.pass

abbrev pub decreases-loop-job : goal.decreases-loop-job
decreases-loop-job g l = left (g.J.Jobs.number l.board.jobs) l.pass.journal
