use Rattle.iloc_driver.proofs.Common.{ℕ, length, subst, OfBlock, ToList, AreFarmed, by_own}
use Rattle.iloc_driver.proofs.farmed.answers_of.Goals as goal

pub returns-clause-farmed : goal.returns-clause-farmed
returns-clause-farmed g c =
    let done = c.in_ok-farm_out.field-0 in
    let P : ToList → ℕ → Type 0 = λ j n. AreFarmed (length j.blocks)
    (OfBlock (by_own (g.L.FarmedLister.answers j.request) j.own) j.blocks) g.L.FarmedLister.cycles_in n done.receipt in
    let Q : ToList → Type 0 = λ j. P j (length c.in_ok-desks.desks.items) in
    let R : ℕ → Type 0 = λ n. P record {
      blocks = c.args.blocks.now;
      request = c.args.request.now;
      own = c.args.priorities.now;
    } n in
    rw c.into_parts-answers.ensures.receipt
    (subst R c.in_ok-desks.ensures (subst Q c.new-jobs.ensures c.in_ok-farm_out.ensures.headline))
