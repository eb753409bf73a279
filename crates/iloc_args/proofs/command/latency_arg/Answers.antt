use Rattle.iloc_args.proofs.Common.{refl, LONGEST_LATENCY}
use Rattle.iloc_args.proofs.Arguments.{within}
use Rattle.iloc_args.proofs.command.latency_arg.Goals as goal

pub returns : goal.returns
returns c = within 1 LONGEST_LATENCY _ _ _ _ _ _ _ c.value_parser.ensures c.new.ensures.start c.new.ensures.end c.range.ensures refl
    c.number_arg.ensures
