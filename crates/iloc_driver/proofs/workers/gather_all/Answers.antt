use Rattle.iloc_driver.proofs.Common.{◌≡◌, ◌++◌, map, length, OnOk, sym, refl, ap, ◌∙◌, All-rest, All-same, on_ok_weaker, IsDone}
use Rattle.iloc_driver.specs.declared.workers.Worked.{Worked}
use Rattle.iloc_driver.proofs.Routines as routines
use Rattle.iloc_driver.proofs.workers.gather_all.Goals as goal

pub loop-shift-init : goal.loop-shift-init
loop-shift-init g c =
    let ready = λ (w : Worked g.row.J.Denot g.row.J-Answer.Denot). (w.pass.board ≡ c.args.board.now)
    × OnOk w.done (IsDone w.pass.journal) in
    let done = λ (w : Worked g.row.J.Denot g.row.J-Answer.Denot). IsDone w.pass.journal in
    let same = c.into_iter-shift-iterator.ensures.into_iter_gives.0 in
    record {
      own = c.requires.root;
      made = refl;
      each = All-same ready _ _ same c.requires.each;
      gathered = ap (λ t. c.args.root.now.gathered ++ map (λ (w : Worked g.row.J.Denot g.row.J-Answer.Denot).
          w.pass.journal) t) same;
      done = All-same done _ _ (sym same);
    }

pub loop-shift-preserved-in-Err : goal.loop-shift-preserved-in-Err
loop-shift-preserved-in-Err g c =
    let ready = λ (w : Worked g.row.J.Denot g.row.J-Answer.Denot). (w.pass.board ≡ c.args.board.now)
    × OnOk w.done (IsDone w.pass.journal) in
    record {
      own = c.in-Err.ensures.own;
      made = c.in-Err.ensures.made ∙ c.loop-shift.invariant.made;
      each = All-rest ready _ _ _ c.in-Some.ensures.steps.0 c.loop-shift.invariant.each;
      gathered = tt;
      done = tt;
    }

pub loop-shift-preserved : goal.loop-shift-preserved
loop-shift-preserved g c =
    let ready = λ (w : Worked g.row.J.Denot g.row.J-Answer.Denot). (w.pass.board ≡ c.args.board.now)
    × OnOk w.done (IsDone w.pass.journal) in
    let done = λ (w : Worked g.row.J.Denot g.row.J-Answer.Denot). IsDone w.pass.journal in
    record {
      own = c.in_default.ensures.own;
      made = c.in_default.ensures.made ∙ c.loop-shift.invariant.made;
      each = All-rest ready _ _ _ c.in-Some.ensures.steps.0 c.loop-shift.invariant.each;
      gathered = on_ok_weaker c.loop-shift.all (λ h. routines.gathered_more (λ w. w.pass.journal) _ _ _ _ _ _ h
          c.in_default.ensures.ok.0 c.in-Some.ensures.steps.0) c.loop-shift.invariant.gathered;
      done = on_ok_weaker c.loop-shift.all (λ h. routines.done_more done _ _ _ _ h c.in_default.ensures.ok.1
          c.in-Some.ensures.steps.0) c.loop-shift.invariant.done;
    }

pub returns-clause-done : goal.returns-clause-done
returns-clause-done g c =
    let done = λ (w : Worked g.row.J.Denot g.row.J-Answer.Denot). IsDone w.pass.journal in
    let rest = c.loop-shift.shift-iterator.rest in
    let none : length rest.items ≡ 0 = sym rest.ok.0 ∙ c.in-None.ensures.steps.0 in
    on_ok_weaker c.loop-shift.all (routines.done_all done rest.items _ none) c.loop-shift.invariant.done
