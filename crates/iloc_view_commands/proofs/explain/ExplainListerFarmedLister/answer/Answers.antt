use Rattle.iloc_view_commands.proofs.Common.{◌++◌, length, option_copied, sym, ap, ◌∙◌, subst, GraphOf, of_block, memory_rule}
use Rattle.iloc_view_commands.proofs.Listers.{each_ranked, explain_is}
use Rattle.iloc_explain.specs.Measures.{AreMeasures}
use Rattle.iloc_args.specs.Flags.{has}
use Rattle.iloc_args.specs.declared.flag.Flag.TheVariants.{Csv}
use Rattle.iloc_view_commands.specs.Explain.{with_block}
use Rattle.iloc_view_commands.proofs.explain.ExplainListerFarmedLister.answer.Goals as goal

pub measure-requires : goal.measure-requires
measure-requires c =
    each_ranked c.args.request.now.priority (option_copied c.args.job.now.own) c.args.job.now.block.now _ _
    (ap (λ (g : GraphOf). g.ops) c.in_ok-refill.ensures.graph) c.args.job.now.each c.in_ok-ranks.ensures

pub lend-requires : goal.lend-requires
lend-requires c = ap length c.deref.ensures.value ∙ c.in_ok-measures.ensures.measures.ranked

pub invariant_of-explained : goal.invariant_of-explained
invariant_of-explained c =
    let lat = c.args.request.now.latencies in
    let filled = c.in_ok-refill.ensures.graph in
    let lawful = (c.in_ok-schedule.ensures c.memory_rule.result lat c.args.job.now.block.now.ops filled).greedy.lawful in
    record {
      names = lawful.names;
      measured = c.in_ok-measures.ensures.ops ∙ (ap (λ (g : GraphOf). g.ops) filled ∙ sym lawful.names);
      waits = rw (
        c.in_ok-measures.ensures.rule ∙ ap (λ (g : GraphOf). g.rule) filled,
        c.in_ok-measures.ensures.latencies ∙ ap (λ (g : GraphOf). g.latencies) filled,
      ) lawful.waits;
    }

pub push_entry-requires-clause-measured : goal.push_entry-requires-clause-measured
push_entry-requires-clause-measured c =
    let measures = c.in_ok-measures.measures in
    let filled = c.in_ok-refill.ensures.graph in
    let lawful = (c.in_ok-schedule.ensures c.memory_rule.result c.args.request.now.latencies c.args.job.now.block.now.ops filled).greedy.lawful in
    subst (λ lat. AreMeasures lat c.in_ok-schedule.schedule.ops measures) (sym c.in_ok-measures.ensures.latencies)
    (subst (λ ops. AreMeasures c.refill.new.self.latencies ops measures) (ap (λ (g : GraphOf). g.ops) filled ∙ sym lawful.names)
    c.in_ok-measures.ensures.measures)

pub returns : goal.returns
returns c =
    let request = c.args.request.now in
    let block = c.args.job.now.block.now in
    let said = c.in_ok-push_entry.ensures in
    let entry = c.in_ok-entry.entry in
    let filled = c.in_ok-refill.ensures.graph
    ∙ ap (λ rule. of_block rule request.latencies block.ops) c.memory_rule.ensures in
    explain_is request (option_copied c.args.job.now.own) c.args.job.now.number block c.in_ok-schedule.schedule _
    c.in_ok-measures.measures.ranks.items said.0 _ _ filled
    (c.in_ok-measures.ensures.ranks ∙ c.in_ok-ranks.ensures) c.in_ok-measures.ensures.rule c.in_ok-measures.ensures.least
    (rw c.deref.ensures.value at (c.in_ok-schedule.ensures (memory_rule request) request.latencies block.ops filled).greedy)
    (rw (c.in_ok-measures.ensures.latencies ∙ ap (λ (g : GraphOf). g.latencies) filled) at said.1) entry.text entry.cycles
    (c.in_ok-entry.ensures.text
    ∙ (c.deref-2.ensures.value
    ∙ (said.2 ∙ ap (λ xs. xs ++ with_block (has request.flags Csv) c.args.job.now.number block.name said.0) c.clear.ensures.items)))
    (c.in_ok-entry.ensures.cycles ∙ c.count_of-cycles.ensures)
