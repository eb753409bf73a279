use Rattle.iloc_block_commands.proofs.Common.{ap, ◌∙◌, GraphOf, cycles_of}
use Rattle.iloc_block_commands.proofs.Listers.{is_count_under}
use Rattle.iloc_block_commands.proofs.compare.count_by.Goals as goal

pub returns : goal.returns
returns c = λ rule lat block is.
    let s = c.in_ok-schedule.schedule in
    is_count_under rule (λ _. c.args.numbers.now) lat block s (c.in_ok-schedule.ensures rule lat block.ops is).greedy c.count_of-cycles.result
    (c.count_of-cycles.ensures ∙ ap (λ l. cycles_of l s) (c.latencies.ensures ∙ ap (λ (g : GraphOf). g.latencies) is))
