use Rattle.std.proofs.Common.{◌≡◌, ◌+◌, arith, ◌∙◌}
use Rattle.iloc_timed.proofs.machine.Machine.land_rest.Goals as goal

pub returns-clause-follows : goal.returns-clause-follows
returns-clause-follows c = λ memory log follows.
    let last : c.loop-cycle.cycle ≡ c.args.from + 16 = omega arith in
    rw (← last) (c.loop-cycle.invariant.1 memory log follows)

pub loop-cycle-preserved : goal.loop-cycle-preserved
loop-cycle-preserved c = (
  c.in_ok-land.ensures.first ∙ c.loop-cycle.invariant.0,
  λ memory log follows.
      c.in_ok-land.ensures.follows memory log (c.loop-cycle.invariant.1 memory log follows),
)
