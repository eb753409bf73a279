use Rattle.iloc_row_commands.proofs.Common.{◌≡◌, ℕ, List, length, sym, ap, ◌∙◌, subst, on_ok_weaker, GraphOf, least_of_under}
use Rattle.iloc_rules.proofs.PriorityValues.Named.{length-priorities_by_where, ruled_priorities}
use Rattle.iloc_rules.specs.declared.memory_rule.MemoryRule.TheVariants.{Book}
use Rattle.iloc_rules.specs.Heuristics.{priorities_by, priorities_under}
use Rattle.iloc_rules.specs.Rule.{counts_by}
use Rattle.iloc_explain.specs.Measures.{AreMeasures}
use Rattle.iloc_row_commands.proofs.explain.explained.push_own.Goals as goal

pub measure-requires : goal.measure-requires
measure-requires c =
    let graph = c.args.known.now.graph.now in
    ap length c.in_ok-rank.ensures ∙ length-priorities_by_where (counts_by graph.rule graph.ops) c.args.known.now.heuristic graph.latencies graph.ops

pub invariant_of-explained : goal.invariant_of-explained
invariant_of-explained c =
    let drawn = c.args.known.now.drawn in
    record {
      names = c.requires.names;
      measured = c.in_ok-measures.ensures.ops ∙ (ap (λ (g : GraphOf). g.ops) drawn ∙ sym c.requires.names);
      waits = rw (
        c.in_ok-measures.ensures.rule ∙ ap (λ (g : GraphOf). g.rule) drawn,
        c.in_ok-measures.ensures.latencies ∙ ap (λ (g : GraphOf). g.latencies) drawn,
      ) c.requires.waits;
    }

pub push_explanation-requires-clause-measured : goal.push_explanation-requires-clause-measured
push_explanation-requires-clause-measured c =
    let known = c.args.known.now in
    let measures = c.in_ok-measures.measures in
    subst (λ lat. AreMeasures lat c.args.own.now.schedule.ops measures) (sym c.in_ok-measures.ensures.latencies)
    (subst (λ ops. AreMeasures known.graph.now.latencies ops measures)
    (ap (λ (g : GraphOf). g.ops) known.drawn ∙ sym c.requires.names) c.in_ok-measures.ensures.measures)

pub departure_of-requires : goal.departure_of-requires
departure_of-requires c = c.requires.names ∙ sym c.args.known.now.greedy.lawful.names

pub returns : goal.returns
returns c =
    let known = c.args.known.now in
    let graph = known.graph.now in
    let own = c.args.own.now in
    let lat = known.latencies.now in
    let same : own.schedule.ops ≡ known.ours.now.ops = c.requires.names ∙ sym known.greedy.lawful.names in
    let ruled : graph.rule ≡ Book = ap (λ (g : GraphOf). g.rule) known.drawn in
    let timed : graph.latencies ≡ lat = ap (λ (g : GraphOf). g.latencies) known.drawn in
    let by = c.in_ok-measures.ensures.ranks ∙ c.in_ok-rank.ensures ∙ ruled_priorities graph.rule known.heuristic graph.latencies graph.ops
    ∙ ap (λ (g : GraphOf). priorities_under g.rule known.heuristic g.latencies g.ops) known.drawn
    ∙ ap (λ (ops : List _). priorities_under Book known.heuristic lat ops) (sym c.requires.names) in
    let bound = c.in_ok-measures.ensures.least ∙ ap (λ (g : GraphOf). least_of_under g.rule g.latencies g.ops) known.drawn in
    let told = c.in_ok-push_explanation.ensures in
    let left = c.departure_of.ensures (priorities_by known.heuristic lat own.schedule.ops) lat known.block.now.ops (rw same known.greedy) in
    on_ok_weaker c.push_departure.result (λ pushed. (
      told.0,
      rw (by, c.in_ok-measures.ensures.rule ∙ ruled, c.in_ok-measures.ensures.latencies ∙ timed, bound, c.deref.ensures.value) at told.1,
      rw (left, told.2, c.deref-2.ensures.value) at pushed,
    )) c.push_departure.ensures
