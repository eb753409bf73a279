use Rattle.iloc_driver.proofs.Common.{◌≡◌, ◌<◌, ◌++◌, map, OnOk, sym, ap, ◌∙◌, arith, range_with_len, state, IsDone}
use Rattle.iloc_board.specs.declared.board.state.State.TheVariants as about
use Rattle.iloc_driver.specs.declared.workers.Shift.{Shift}
use Rattle.iloc_driver.specs.declared.workers.Worked.{Worked}
use Rattle.iloc_driver.proofs.Routines as routines
use Rattle.iloc_driver.proofs.Gathered as wholes
use Rattle.iloc_driver.proofs.workers.work_all.Goals as goal

pub gather_all-requires-clause-each : goal.gather_all-requires-clause-each
gather_all-requires-clause-each g c =
    let ready = λ (s : Shift g.row.J.Denot g.row.D.Denot g.row.G.Denot g.row.J-Answer.Denot). (s.pass.board ≡ s.board.now)
    × (s.board.now ≡ c.args.board.now) × (state s.pass ≡ about.Free) in
    let done = λ (w : Worked g.row.J.Denot g.row.J-Answer.Denot). (w.pass.board ≡ c.args.board.now)
    × OnOk w.done (IsDone w.pass.journal) in
    routines.All-zip _ ready done (λ s w r p. (r.0 ∙ p.1, r.2)) _ _ c.in_ok-worked.ensures c.in_ok-shifts.ensures.ready

pub returns-clause-journals : goal.returns-clause-journals
returns-clause-journals g c =
    let gathered = c.in_ok-gather_all.ensures.gathered
    ∙ ap (λ t. t ++ map (λ (w : Worked g.row.J.Denot g.row.J-Answer.Denot). w.pass.journal)
    c.in_ok-worked.worked.items) c.in_ok-shifts.ensures.gathered in
    let given = routines.map-zip _ (λ (s : Shift g.row.J.Denot g.row.D.Denot g.row.G.Denot g.row.J-Answer.Denot).
    s.pass.journal.worker) (λ (w : Worked g.row.J.Denot g.row.J-Answer.Denot). w.pass.journal.worker) (λ s w r. r.1) _ _
    c.in_ok-worked.ensures in
    wholes.workers (λ (w : Worked g.row.J.Denot g.row.J-Answer.Denot). w.pass.journal) _ _ _ gathered
    (given ∙ (c.in_ok-shifts.ensures.numbered ∙ ap (λ n. range_with_len 0 n) c.in_ok-shifts.ensures.all))

pub returns-clause-done : goal.returns-clause-done
returns-clause-done g c =
    let gathered = c.in_ok-gather_all.ensures.gathered
    ∙ ap (λ t. t ++ map (λ (w : Worked g.row.J.Denot g.row.J-Answer.Denot). w.pass.journal)
    c.in_ok-worked.worked.items) c.in_ok-shifts.ensures.gathered in
    wholes.done (λ (w : Worked g.row.J.Denot g.row.J-Answer.Denot). w.pass.journal) _ _ gathered
    c.in_ok-gather_all.ensures.done

pub returns-clause-whole : goal.returns-clause-whole
returns-clause-whole g c =
    let made = c.gather_all.ensures.made ∙ c.in_ok-shifts.ensures.all in
    let some_made : 0 < c.gather_all.new.root.made = omega (arith, made, c.requires.some) in
    wholes.whole _ _ (returns-clause-journals g c ∙ ap (λ n. range_with_len 0 n) (sym made)) (returns-clause-done g c) some_made
