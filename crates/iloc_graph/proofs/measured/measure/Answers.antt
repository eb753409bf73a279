use Rattle.iloc_graph.proofs.Common.{◌∙◌}
use Rattle.iloc_rules.proofs.PriorityValues.Named.{ruled_priorities}
use Rattle.iloc_rules.specs.declared.heuristic.Heuristic.TheVariants.{Chain}
use Rattle.iloc_graph.proofs.measured.measure.Goals as goal

pub returns-clause-ops : goal.returns-clause-ops
returns-clause-ops c = c.in_ok-delays.ensures.ops ∙ c.ops.ensures.ops

pub returns-clause-latencies : goal.returns-clause-latencies
returns-clause-latencies c = c.in_ok-delays.ensures.latencies ∙ c.latencies.ensures

pub returns-clause-rule : goal.returns-clause-rule
returns-clause-rule c = c.in_ok-delays.ensures.rule ∙ c.rule.ensures

pub returns-clause-measures : goal.returns-clause-measures
returns-clause-measures c =
    let graph = c.args.graph.now in
    let ruled = c.in_ok-delays.ensures.rule ∙ c.rule.ensures in
    record {
      ranked = c.requires;
      pairs = rw ruled c.in_ok-pairs.ensures;
      chains = rw ruled (c.in_ok-chains.ensures ∙ ruled_priorities graph.rule Chain graph.latencies graph.ops);
      starts = rw ruled c.in_ok-starts.ensures;
    }
