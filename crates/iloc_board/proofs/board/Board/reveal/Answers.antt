use Rattle.iloc_board.proofs.Common.{◌≡◌, sym, ap, ◌∙◌, arith, Sat, RootView}
use Rattle.iloc_board.proofs.Closes as closes
use Rattle.iloc_board.proofs.Keeps as keeps
use Rattle.iloc_board.proofs.Passes as passes
use Rattle.iloc_board.proofs.board.Board.reveal.Goals as goal

pub load-requires : goal.load-requires
load-requires g c = (
  passes.root_table _ _ _ _ c.root.view_is c.self.view_is c.requires.own,
  omega (arith, c.self.invariant.words),
  keeps.tells_kept c.self.inside.table.shared.key c.self.inside.table.shared.table_id.slots c.root.inside.seat.id
      c.root.inside.seat.me (ap (λ (m : Sat). m.0.role) c.root.invariant.seat),
)

pub returns-clause-answers : goal.returns-clause-answers
returns-clause-answers g c = ap (λ (v : RootView g.row.J.Denot g.row.J-Answer.Denot). v.answers) c.root.view_is

pub returns-clause-made : goal.returns-clause-made
returns-clause-made g c = ap (λ (m : Sat). m.0.made) c.load.ensures.2.0 ∙ (ap (λ (m : Sat). m.0.made) c.root.invariant.seat
    ∙ ap (λ (v : RootView g.row.J.Denot g.row.J-Answer.Denot). v.made) c.root.view_is)

pub returns-clause-gathered : goal.returns-clause-gathered
returns-clause-gathered g c = ap (λ (m : Sat). m.0.gathered) c.load.ensures.2.0
    ∙ (ap (λ (m : Sat). m.0.gathered) c.root.invariant.seat
    ∙ ap (λ (v : RootView g.row.J.Denot g.row.J-Answer.Denot). v.gathered) c.root.view_is)

pub returns-clause-list : goal.returns-clause-list
returns-clause-list g c =
    let told = c.load.ensures.2 in
    let same : c.root.inside.seat.me.0.count ≡ c.self.inside.count = ap (λ (m : Sat). m.0.count) c.root.invariant.seat
    ∙ (ap g.J.Jobs.number (passes.root_jobs _ _ _ _ c.root.view_is c.self.view_is c.requires.own)
    ∙ sym c.self.invariant.count_is) in
    let found = closes.finds_at g.J.Jobs.number g.J.Jobs.fits g.J.Jobs.price _ _ _ _ told.3 c.root.inside.seat.me
    c.self.inside.count c.root.view_is c.self.view_is c.requires.own c.self.invariant.count_is c.root.invariant told.1
    (rw same at told.2) told.4 in
    (found.steps, found.closed)
