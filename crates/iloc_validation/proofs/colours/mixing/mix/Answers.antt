use Rattle.std.proofs.Common.{ap, ◌∙◌}
use Rattle.iloc_validation.specs.Steps.Colours.{mixed, stirred}
use Rattle.iloc_validation.proofs.colours.mixing.mix.Goals as goal

pub returns : goal.returns
unfolding mixed
returns c = c.stirred-2.ensures ∙ ap stirred c.stirred.ensures
