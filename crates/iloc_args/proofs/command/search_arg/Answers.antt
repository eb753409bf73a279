use Rattle.iloc_args.proofs.Common.{codes, option_rule}
use Rattle.iloc_args.proofs.Arguments.{read_by}
use Rattle.iloc_args.proofs.command.search_arg.Goals as goal

pub returns : goal.returns
returns c = read_by (option_rule (codes "nodes")) _ _ _ c.nodes_parser.ensures c.option_arg.ensures
