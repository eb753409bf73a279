use Rattle.iloc_board.proofs.Common.{◌≡◌, ℕ, ◌<◌, sym, refl, ap, ◌∙◌, arith, state_of, Sat, job_of, state, Hand}
use Rattle.iloc_board.proofs.Keeps as keeps
use Rattle.iloc_board.proofs.Passes as passes
use Rattle.iloc_board.proofs.board.Board.hand_back.Goals as goal

pub store-requires : goal.store-requires
store-requires g c =
    let number : ℕ = g.J.Jobs.number c.pass.inside.jobs.now in
    let same = passes.same_count c.pass.view_is c.requires.own c.self.view_is g.J.Jobs.number _ c.self.invariant.count_is in
    let below : c.in-Holding.job < number = rw c.in-Holding.is at c.pass.invariant.within in (
      passes.same_table c.pass.view_is c.requires.own c.self.view_is,
      omega (arith, c.self.invariant.words),
      keeps.hands_kept c.self.inside.table.shared.key c.self.inside.table.shared.table_id.slots c.pass.inside.seat.id
          c.pass.inside.seat.me c.in-Holding.job _ _ (ap (λ m. m.0.role) c.pass.invariant.seat)
          (sym c.pass.invariant.state_is ∙ c.in-Holding.is) (omega arith),
    )

pub invariant_of-pass-2 : goal.invariant_of-pass-2
invariant_of-pass-2 g c =
    let number : ℕ = g.J.Jobs.number c.pass.inside.jobs.now in
    let jobs : c.pass.inside.jobs.now ≡ c.args.self.now.jobs = passes.own_jobs c.pass.view_is c.requires.own in
    let job : job_of (state c.args.pass.now) ≡ c.in-Holding.job =
    passes.job_is _ _ _ c.pass.view_is c.pass.invariant.state_is ∙ ap job_of c.in-Holding.is in
    let fit : g.J.Jobs.fits c.pass.inside.jobs.now c.in-Holding.job c.args.answer =
    rw jobs (rw job at c.requires.fits) in
    let price : c.cost-cost.result ≡ g.J.Jobs.price c.pass.inside.jobs.now c.args.answer =
    c.cost-cost.ensures.price ∙ ap (λ (z : g.row.J.Denot). g.J.Jobs.price z c.args.answer)
    (sym (passes.same_jobs c.pass.view_is c.requires.own c.self.view_is)) in
    passes.handed_inside number (g.J.Jobs.fits c.pass.inside.jobs.now) (g.J.Jobs.price c.pass.inside.jobs.now) _ _ _ _ _
    _ c.in-Holding.job c.cost-cost.result _ c.args.answer _ c.pass.invariant refl c.store.ensures.2 c.in-Holding.is
    (passes.pushed _ _ _ _ c.reserve_one.ensures.pairs c.push_reserved.ensures) fit price

pub returns-clause-state : goal.returns-clause-state
returns-clause-state g c = ap (λ (m : Sat). state_of m.0.journal.entries) c.store.ensures.2
    ∙ passes.free_after c.pass.inside.seat.me.0.journal.entries
    (Hand c.pass.inside.seat.me.0.journal.worker c.cost-cost.result)
