use Rattle.std.proofs.Common.{◌∙◌}
use Rattle.iloc_timed.proofs.WholeRuns.{ran_shown}
use Rattle.iloc_timed.proofs.machine.Machine.outputs.Goals as goal

pub returns : goal.returns
returns c = λ lat ops rows ran.
    c.outputs.ensures ∙ ran_shown lat ops rows c.args.self.now c.args.self.now.state.finished ran
