use Rattle.iloc_row_commands.proofs.Common.{◌≡◌, sym, ap, ◌∙◌, subst, GraphOf, of_block, least_of_under, least_under, IsSoughtIf, cycles_of, options_of}
use Rattle.iloc_args.specs.Rule.{memory_rule}
use Rattle.iloc_row_commands.proofs.Checks.{check_listed, small_check}
use Rattle.iloc_row_commands.proofs.check.CheckListerRowLister.list.Goals as goal

pub seek_if-requires-clause-graph : goal.seek_if-requires-clause-graph
seek_if-requires-clause-graph c = ap (λ (g : GraphOf). g.ops) c.in_ok-refill.ensures.graph

pub by_the_book-requires-clause-ruled : goal.by_the_book-requires-clause-ruled
by_the_book-requires-clause-ruled c = (c.in_ok-ruled.ensures _ _ _ c.in_ok-refill.ensures.graph).greedy

pub invariant_of-task : goal.invariant_of-task
invariant_of-task c = record {
  few = c.args.job.now.short;
  lawful = c.in_ok-ours.ensures.lawful;
}

pub returns-clause-listed : goal.returns-clause-listed
returns-clause-listed c =
    let request = c.args.request.now in
    let block = c.args.job.now.block.now in
    let rule = memory_rule request in
    let graph = c.in_ok-refill.ensures.graph
    ∙ ap (λ rule. of_block rule request.latencies block.ops) c.memory_rule-rule.ensures in
    let said = c.in_ok-checked.ensures.entry in
    let beside = c.in_ok-checked.ensures.beside in
    let asked = subst (λ (g : GraphOf). IsSoughtIf request.nodes g.rule g.latencies block.ops c.in_ok-sought.sought) graph
    c.in_ok-sought.ensures in
    let sought = subst (IsSoughtIf request.nodes rule request.latencies block.ops) (sym beside.1) asked in
    let least : c.in_ok-checked.checked.least ≡ least_under rule request.latencies block.ops =
    beside.2 ∙ (c.in_ok-least.ensures ∙ ap (λ (g : GraphOf). least_of_under g.rule g.latencies g.ops) graph) in
    let counted : c.in_ok-checked.checked.ours ≡ cycles_of request.latencies c.in_ok-ruled.ruled =
    beside.0 ∙ c.cycles-cycles.ensures in
    check_listed (options_of request) request.nodes rule request.latencies _ _ c.args.job.now.number block
    c.in_ok-ours.ours c.in_ok-ruled.ruled c.args.proposal c.in_ok-checked.checked c.args.text.now.items _ _ said.0 _
    c.in_ok-ours.ensures (c.in_ok-ruled.ensures _ _ _ graph).greedy counted sought least c.requires c.as_ref.ensures.value
    (rw c.form_of.ensures at c.in_ok-push_check_head.ensures) (rw c.options_of.ensures at said.1) said.2

pub returns-clause-small : goal.returns-clause-small
returns-clause-small c =
    let request = c.args.request.now in
    let block = c.args.job.now.block.now in
    let graph = c.in_ok-refill.ensures.graph in
    let said = c.in_ok-checked.ensures.entry in
    let beside = c.in_ok-checked.ensures.beside in
    small_check (options_of request) c.memory_rule-rule.result request.latencies c.args.self.now.memory
    block.ops c.in_ok-ours.ours c.in_ok-ruled.ruled c.args.proposal c.in_ok-checked.checked said.0
    (rw c.options_of.ensures at said.1) (c.in_ok-ruled.ensures _ _ _ graph).greedy (beside.0 ∙ c.cycles-cycles.ensures)
    (beside.2 ∙ (c.in_ok-least.ensures ∙ ap (λ (g : GraphOf). least_of_under g.rule g.latencies g.ops) graph))
    c.args.job.now.short c.rows.ensures.few
