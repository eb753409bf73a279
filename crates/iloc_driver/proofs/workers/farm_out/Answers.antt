use Rattle.iloc_driver.proofs.Common.{◌≡◌, length, ap, ◌∙◌, subst, rules, All-same, IsDone}
use Rattle.iloc_board.specs.Finished.{IsDoneBy}
use Rattle.iloc_board.specs.Collecting.{workers_of}
use Rattle.iloc_driver.proofs.workers.farm_out.Goals as goal

pub returns-clause-headline : goal.returns-clause-headline
returns-clause-headline g c =
    let done = c.in_ok-done.ensures in
    let worked = c.in_ok-work_all.ensures in
    let made : c.in_ok-done.field-0.receipt.made ≡ length c.args.desks.items = search rules in
    let P : g.row.J.Denot → Type 0 = λ j. IsDoneBy (g.J.Jobs.number j) (g.J.Jobs.fits j) (g.J.Jobs.price j)
    c.in_ok-done.field-0.receipt in
    record {
      made = made;
      journals = ap workers_of done.gathered ∙ (worked.journals ∙ search rules);
      told = All-same IsDone _ _ done.gathered worked.done;
      done = subst P c.in_ok-board.ensures.jobs (c.work_all.new.root.answers, done.done);
    }
