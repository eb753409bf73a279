use Rattle.iloc_driver.proofs.Common.{◌≡◌, suc, length, refl, ap, ◌∙◌, arith, state}
use Rattle.iloc_board.specs.declared.board.state.State.TheVariants as about
use Rattle.iloc_driver.specs.declared.workers.Shift.{Shift}
use Rattle.iloc_driver.proofs.Routines as routines
use Rattle.iloc_driver.proofs.workers.shifts.Goals as goal

pub loop-desk-preserved : goal.loop-desk-preserved
loop-desk-preserved g c =
    let made = ap (λ r. r.made) c.pass-pass.ensures.root in
    let workers = ap (λ r. r.workers) c.pass-pass.ensures.root in
    let made_is = c.pass-pass.ensures.pass in
    let rest : length c.loop-desk.desk-iterator.rest.items ≡ suc (length c.next.new.self.rest.items) =
    ap length c.in-Some.ensures.steps.0 in
    let ready = λ (s : Shift g.row.J.Denot g.row.D.Denot g.row.G.Denot g.row.J-Answer.Denot). (s.pass.board ≡ s.board.now)
    × (s.board.now ≡ c.args.board.now) × (state s.pass ≡ about.Free) in
    record {
      own = ap (λ r. r.board) c.pass-pass.ensures.root ∙ c.loop-desk.invariant.own;
      workers = workers ∙ c.loop-desk.invariant.workers;
      left = omega (arith, made, workers, rest, c.loop-desk.invariant.left);
      gathered = ap (λ r. r.gathered) c.pass-pass.ensures.root ∙ c.loop-desk.invariant.gathered;
      ready = routines.all_more ready _ _ _ c.in_ok-push.ensures.items c.loop-desk.invariant.ready (
        ap (λ p. p.board) made_is ∙ c.loop-desk.invariant.own,
        refl,
        ap state made_is,
      );
      numbered = routines.numbered_more (λ s. s.pass.journal.worker) _ _ _ _ _ c.in_ok-push.ensures.items
          c.loop-desk.invariant.numbered (ap (λ p. p.journal.worker) made_is) made;
    }
