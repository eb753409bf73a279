use Rattle.iloc_graph.proofs.Common.{◌∙◌, arith, common_steps}
use Rattle.iloc_graph.proofs.Pairs.{one_more}
use Rattle.iloc_graph.proofs.Sources.{source_earlier}
use Rattle.iloc_graph.proofs.nearest.nearest_pairs.Goals as goal

pub push_pairs-requires-clause-earlier : goal.push_pairs-requires-clause-earlier
push_pairs-requires-clause-earlier c =
    source_earlier c.args.graph.now.rule c.args.graph.now.ops c.loop-second.second _ (c.deref.ensures.value ∙ c.in_ok-near.ensures)

pub loop-second-preserved : goal.loop-second-preserved
loop-second-preserved c = grind (arith, one_more, common_steps)
