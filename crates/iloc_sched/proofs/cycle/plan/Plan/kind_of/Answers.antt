use Rattle.std.proofs.Common.{◌∙◌}
use Rattle.iloc_sched.proofs.KeptEdges.ListedKinds.{kind_listed}
use Rattle.iloc_sched.proofs.cycle.plan.Plan.kind_of.Goals as goal

pub returns : goal.returns
returns c = c.index.ensures
    ∙ kind_listed c.args.self.now.tables.now.ops.items c.args.self.now.tables.now.kinds.items c.args.i _ c.requires.kinds c.requires.there
