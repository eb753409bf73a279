use Rattle.iloc_args.proofs.Common.{codes, lit<, found_of}
use Rattle.iloc_args.proofs.Getters.{one_if_read}
use Rattle.iloc_args.proofs.line.nodes_in.Goals as goal

pub returns : goal.returns
returns c =
    one_if_read (codes "nodes") (found_of c.args.given.now) 0 100000 c.get_one.result (lit< tt) c.requires.nodes
    c.get_one.ensures.none c.get_one.ensures.value
