use Rattle.std.proofs.Common.{refl}
use Rattle.iloc_args.proofs.Arguments.{narrowed}
use Rattle.iloc_args.proofs.command.nodes_parser.Goals as goal

pub returns : goal.returns
returns c = narrowed 0 100000 _ _ _ _ c.value_parser.ensures c.new.ensures.start c.new.ensures.end c.range.ensures refl
