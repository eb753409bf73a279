use Rattle.iloc_graph.proofs.Common.{◌++◌, refl, ap, ◌∙◌, arith, common_steps, chains_by, head_lines, nearest_pairs}
use Rattle.iloc_rules.specs.declared.heuristic.Heuristic.TheVariants.{Chain}
use Rattle.iloc_rules.proofs.PriorityValues.LongestWhere.{length_where}
use Rattle.iloc_rules.proofs.PriorityValues.Named.{ruled_priorities}
use Rattle.iloc_rules.proofs.Renamed.MentionedSources.{length-renamed_by}
use Rattle.iloc_graph.proofs.Lines.{cluster_grown}
use Rattle.iloc_graph.proofs.cluster.push_cluster.Goals as goal

pub push_operations-requires : goal.push_operations-requires
push_operations-requires c = grind (arith, length_where, length-renamed_by, common_steps)

pub longest_chain-requires : goal.longest_chain-requires
longest_chain-requires c =
    let graph = c.args.graph.now in
    grind (arith, ruled_priorities graph.rule Chain graph.latencies graph.ops, common_steps)

pub returns : goal.returns
returns c =
    let graph = c.args.graph.now in
    let text = c.args.text.now.items in
    let chains = c.in_ok-chains.ensures ∙ (ruled_priorities graph.rule Chain graph.latencies graph.ops
    ∙ ap (chains_by graph.rule graph.latencies) c.requires) in
    let pairs = c.in_ok-pairs.ensures ∙ ap (nearest_pairs graph.rule graph.latencies) c.requires in (
      _,
      record {
        chain = c.in_ok-chain.chain.items;
        longest = rw (
          c.in_ok-delays.ensures.rule ∙ c.rule.ensures,
          c.in_ok-delays.ensures.latencies ∙ c.latencies.ensures,
          c.in_ok-delays.ensures.ops ∙ (c.ops.ensures.ops ∙ c.requires),
        ) at
            c.in_ok-chain.ensures.chosen;
        listed = refl;
      },
      cluster_grown text _ _ _ _ _ _ _ _ _ _
          (c.in_ok-push_head.ensures ∙ ap (λ name. text ++ head_lines c.args.number name) c.as_ref.ensures.value)
          (rw (c.as_slice.ensures, c.deref-2.ensures.value ∙ chains) at c.in_ok-push_operations.ensures)
          (rw (c.deref-3.ensures.value ∙ pairs) at c.in_ok-push_edges.ensures)
          (rw c.deref-4.ensures.value at c.in_ok-push_chain.ensures) c.in_ok-extend_from_slice.ensures.items,
    )
