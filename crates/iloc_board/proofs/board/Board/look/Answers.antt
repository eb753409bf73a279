use Rattle.std.proofs.Common.{ap, sym, arith, refl}
use Rattle.iloc_board.proofs.Keeps as keeps
use Rattle.iloc_board.proofs.Passes as passes
use Rattle.iloc_board.proofs.board.Board.look.Goals as goal

pub load-next-requires : goal.load-next-requires
load-next-requires g c = (
  passes.same_table c.pass.view_is c.requires.own c.self.view_is,
  omega (arith, c.self.invariant.words),
  keeps.looks_kept c.self.inside.table.shared.key c.self.inside.table.shared.table_id.slots c.pass.inside.seat.id
      c.pass.inside.seat.me (ap (λ m. m.0.role) c.pass.invariant.seat)
      (passes.free_inside _ _ c.pass.view_is c.requires.free),
)

pub invariant_of-pass : goal.invariant_of-pass
invariant_of-pass g c =
    let same = passes.same_count c.pass.view_is c.requires.own c.self.view_is g.J.Jobs.number _ c.self.invariant.count_is in
    passes.looked_inside c.pass.invariant refl _ c.load-next.ensures.2.0 (omega arith)

pub invariant_of-pass-else-next-from : goal.invariant_of-pass-else-next-from
invariant_of-pass-else-next-from g c =
    let same = passes.same_count c.pass.view_is c.requires.own c.self.view_is g.J.Jobs.number _ c.self.invariant.count_is in
    passes.free_again c.pass.invariant refl _ c.load-next.ensures.2.0 (omega arith)

pub returns-then-next-from-clause-stays : goal.returns-then-next-from-clause-stays
returns-then-next-from-clause-stays g c = λ h.
    let same = passes.same_count c.pass.view_is c.requires.own c.self.view_is g.J.Jobs.number _ c.self.invariant.count_is in
    let all = passes.none_stays c.pass.invariant refl c.pass.view_is c.load-next.ensures.2.1 h in
    absurd (omega arith)

pub returns-then-next-from-clause-state : goal.returns-then-next-from-clause-state
returns-then-next-from-clause-state g c =
    let same = passes.same_count c.pass.view_is c.requires.own c.self.view_is g.J.Jobs.number _ c.self.invariant.count_is in
    sym (passes.looked_inside c.pass.invariant refl {id = c.load-next.new.seat.table_id} _ c.load-next.ensures.2.0
    (omega arith)).state_is

pub returns-else-next-from-clause-state : goal.returns-else-next-from-clause-state
returns-else-next-from-clause-state g c =
    let same = passes.same_count c.pass.view_is c.requires.own c.self.view_is g.J.Jobs.number _ c.self.invariant.count_is in
    sym (passes.free_again c.pass.invariant refl {id = c.load-next.new.seat.table_id} _ c.load-next.ensures.2.0
    (omega arith)).state_is
