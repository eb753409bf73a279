use Rattle.iloc_args.proofs.Common.{refl, LAST_ADDRESS}
use Rattle.iloc_args.proofs.Arguments.{within}
use Rattle.iloc_args.proofs.command.at_arg.Goals as goal

pub returns : goal.returns
returns c = within 0 LAST_ADDRESS _ _ _ _ _ _ _ c.value_parser.ensures c.new.ensures.start c.new.ensures.end c.range.ensures refl
    c.number_arg.ensures
