use Rattle.std.proofs.Common.{◌∙◌, ap}
use Rattle.iloc_text.proofs.Lanes.{summed, digits_valued}
use Rattle.iloc_text.proofs.line.numbers.number_of.Goals as goal

pub returns-clause-is : goal.returns-clause-is
returns-clause-is c some a b d e rest below small is =
    ap summed c.wrapping_shl.ensures ∙ digits_valued c.args.digits c.args.count a b d e rest some c.requires below small is
