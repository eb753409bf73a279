use Rattle.iloc_driver.proofs.Common.{List, length, sym, ap, ◌∙◌, subst, Block, AreListed, OfBlock, AreFarmed, by_own}
use Rattle.iloc_driver.proofs.Receipts.{are_listed}
use Rattle.iloc_driver.proofs.farmed.listed_by_workers.Goals as goal

pub listing-requires-clause-many : goal.listing-requires-clause-many
listing-requires-clause-many g c =
    let lists = by_own (g.L.FarmedLister.answers c.args.request.now) c.in_ok-blocks.priorities in
    let P : List Block → Type 0 = λ bs. AreFarmed (length bs) (OfBlock lists bs) g.L.FarmedLister.cycles_in
    c.args.request.now.workers c.in_ok-answers.receipt in
    ap length c.in_ok-answers.ensures.kept
    ∙ (are_listed lists _ _ _ _ (subst P c.as_slice.ensures c.in_ok-answers.ensures.farmed)).many

pub returns-clause-ok : goal.returns-clause-ok
returns-clause-ok g c =
    let read = c.in_ok-blocks.ensures.ok in
    let kept = c.in_ok-answers.ensures.kept in
    let lists = by_own (g.L.FarmedLister.answers c.args.request.now) c.in_ok-blocks.priorities in
    let P : List Block → Type 0 = λ bs. AreFarmed (length bs) (OfBlock lists bs) g.L.FarmedLister.cycles_in
    c.args.request.now.workers c.in_ok-answers.receipt in
    let farmed : P c.in_ok-blocks.blocks = subst P c.as_slice.ensures c.in_ok-answers.ensures.farmed in
    record {
      read = record {
        input = read.0;
        read = read.1;
        blocks = c.in_ok-blocks.blocks;
        denoted = read.2;
        own = c.in_ok-blocks.priorities;
        ranked = read.3;
        listed = c.in_ok-text.ensures.right c.in_ok-blocks.priorities
            (subst (AreListed lists c.in_ok-blocks.blocks) (sym kept) (are_listed lists _ _ _ _ farmed));
      };
      farmed = farmed;
      made = c.in_ok-text.ensures.made ∙ ap (g.L.FarmedLister.made_of c.args.request.now c.in_ok-blocks.blocks) kept;
    }
