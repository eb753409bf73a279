use Rattle.iloc_args.proofs.Common.{codes, default_rule}
use Rattle.iloc_args.proofs.Arguments.{read_by}
use Rattle.iloc_args.proofs.command.nodes_arg.Goals as goal

pub returns : goal.returns
returns c = read_by (default_rule (codes "nodes") (codes "1000")) _ _ _ c.nodes_parser.ensures c.number_arg.ensures
