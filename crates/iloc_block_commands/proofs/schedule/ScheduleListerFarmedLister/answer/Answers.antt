use Rattle.iloc_block_commands.proofs.Common.{option_copied, ap, ◌∙◌, GraphOf, of_block}
use Rattle.iloc_block_commands.proofs.Listers.{each_ranked, schedule_is}
use Rattle.iloc_block_commands.proofs.schedule.ScheduleListerFarmedLister.answer.Goals as goal

pub lend-requires : goal.lend-requires
lend-requires c =
    each_ranked (option_copied c.args.job.now.own) c.args.job.now.block.now _ (ap (λ (g : GraphOf). g.ops) c.in_ok-refill.ensures.graph) c.args.job.now.each

pub returns : goal.returns
returns c =
    schedule_is c.args.request.now (option_copied c.args.job.now.own) c.args.job.now.number c.args.job.now.block.now c.in_ok-schedule.schedule
    (c.in_ok-schedule.ensures _ _ _ (c.in_ok-refill.ensures.graph
    ∙ ap (λ rule. of_block rule c.args.request.now.latencies c.args.job.now.block.now.ops) c.memory_rule.ensures)).greedy
    c.in_ok-entry.entry.text c.in_ok-entry.entry.cycles c.in_ok-entry.ensures.text c.in_ok-entry.ensures.cycles
