use Rattle.iloc_block_commands.proofs.Common.{IfOk-weaker, memory_rule, total_of_all, made_listing, IsOptimizeEntry}
use Rattle.iloc_block_commands.proofs.optimize.OptimizeListerFarmedLister.listing.Goals as goal

pub with_total-requires : goal.with_total-requires
with_total-requires c = rw c.requires.many c.requires.few

pub returns-clause-made : goal.returns-clause-made
returns-clause-made c = c.with_total.ensures

pub returns-clause-right : goal.returns-clause-right
returns-clause-right c =
    IfOk-weaker c.with_total.result _ _
    (λ text is. λ own are. made_listing (IsOptimizeEntry (memory_rule c.args._request.now) c.args._request.now.latencies) (λ e. e.text) (λ e. e.cycles) total_of_all
    c.args.blocks c.args.entries.items text are is) c.with_total.ensures
