use Rattle.std.proofs.Common.{ap, sym, ◌∙◌, arith, refl, ◌≡◌}
use Rattle.iloc_board.proofs.Keeps as keeps
use Rattle.iloc_board.proofs.Passes as passes
use Rattle.iloc_board.proofs.board.Board.gather.Goals as goal

pub join_seat-requires : goal.join_seat-requires
join_seat-requires g c = (
  passes.root_table _ _ _ _ c.root.view_is c.self.view_is c.requires.root,
  passes.same_table c.pass.view_is c.requires.pass c.self.view_is,
  ap (λ m. m.1) c.pass.invariant.seat,
  omega (arith, c.self.invariant.words),
  keeps.gathers_kept c.self.inside.table.shared.key c.root.inside.seat.id c.pass.inside.seat.id c.root.inside.seat.me.0
      c.pass.inside.seat.me.0 (ap (λ m. m.0.role) c.root.invariant.seat) (ap (λ m. m.0.role) c.pass.invariant.seat),
)

pub invariant_of-root-2 : goal.invariant_of-root-2
invariant_of-root-2 g c =
    let jobs : c.pass.inside.jobs.now ≡ c.root.inside.jobs.now =
    passes.same_jobs c.pass.view_is c.requires.pass c.self.view_is
    ∙ sym (passes.root_jobs _ _ _ _ c.root.view_is c.self.view_is c.requires.root) in
    let inside = rw jobs at c.pass.invariant in
    passes.gathered_inside (g.J.Jobs.number c.root.inside.jobs.now) (g.J.Jobs.fits c.root.inside.jobs.now)
    (g.J.Jobs.price c.root.inside.jobs.now) _ _ c.pass.inside.seat.me _ _ _ _ _ _ c.root.invariant refl inside refl
    c.join_seat.ensures.2 c.in_default.ensures.ok
