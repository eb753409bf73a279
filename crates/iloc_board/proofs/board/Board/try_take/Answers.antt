use Rattle.iloc_board.proofs.Common.{◌+◌, sym, refl, ap, ◌∙◌, arith, seen, Looked}
use Rattle.iloc_board.proofs.Keeps as keeps
use Rattle.iloc_board.proofs.Passes as passes
use Rattle.iloc_board.proofs.board.Board.try_take.Goals as goal

pub compare_exchange-found-requires : goal.compare_exchange-found-requires
compare_exchange-found-requires g c = (
  passes.same_table c.pass.view_is c.requires.own c.self.view_is,
  omega (arith, c.self.invariant.words),
  keeps.tries_kept c.self.inside.table.shared.key c.self.inside.table.shared.table_id.slots c.pass.inside.seat.id
      c.pass.inside.seat.me c.from-wanted.result (c.from-wanted.result + 1) (ap (λ m. m.0.role) c.pass.invariant.seat)
      (sym c.pass.invariant.state_is ∙ (c.in-Looked.is ∙ ap Looked (sym c.from-wanted.ensures))) (omega arith),
)

pub invariant_of-pass : goal.invariant_of-pass
invariant_of-pass g c = passes.took_inside c.pass.invariant refl _ _ c.compare_exchange-found.ensures.2.0
    c.from-wanted.ensures c.if-found-wanted.true (rw c.in-Looked.is at c.pass.invariant.within)

pub invariant_of-pass-then-found-from : goal.invariant_of-pass-then-found-from
invariant_of-pass-then-found-from g c =
    let same = passes.same_count c.pass.view_is c.requires.own c.self.view_is g.J.Jobs.number _ c.self.invariant.count_is in
    passes.late_inside c.pass.invariant refl _ _ c.compare_exchange-found.ensures.2.0 c.if-found-wanted.false (omega arith)

pub invariant_of-pass-else-found-from : goal.invariant_of-pass-else-found-from
invariant_of-pass-else-found-from g c =
    let same = passes.same_count c.pass.view_is c.requires.own c.self.view_is g.J.Jobs.number _ c.self.invariant.count_is in
    passes.none_inside c.pass.invariant refl _ _ c.compare_exchange-found.ensures.2.0 c.if-found-wanted.false (omega arith)

pub returns-then-found-wanted-clause-fresh : goal.returns-then-found-wanted-clause-fresh
returns-then-found-wanted-clause-fresh g c =
    let fresh = passes.try_fresh c.pass.invariant refl c.pass.view_is c.in-Looked.is
    c.compare_exchange-found.ensures.2.1 in
    let jobs = passes.own_jobs c.pass.view_is c.requires.own in
    let same = ap (λ z. seen (g.J.Jobs.number z) c.args.pass.now.journal) jobs in
    (omega (arith, fresh.0, fresh.1), sym fresh.2)

pub returns-then-found-from-clause-fresh : goal.returns-then-found-from-clause-fresh
returns-then-found-from-clause-fresh g c =
    let fresh = passes.try_fresh c.pass.invariant refl c.pass.view_is c.in-Looked.is
    c.compare_exchange-found.ensures.2.1 in
    let jobs = passes.own_jobs c.pass.view_is c.requires.own in
    let same = ap (λ z. seen (g.J.Jobs.number z) c.args.pass.now.journal) jobs in
    let own = ap g.J.Jobs.number jobs in
    let count = passes.same_count c.pass.view_is c.requires.own c.self.view_is g.J.Jobs.number _ c.self.invariant.count_is in
    (omega (arith, fresh.0), omega (arith, fresh.0, fresh.1, fresh.2, c.if-found-wanted.false), omega arith)

pub returns-then-found-wanted-clause-state : goal.returns-then-found-wanted-clause-state
returns-then-found-wanted-clause-state g c =
    sym (passes.took_inside c.pass.invariant refl {id = c.compare_exchange-found.new.seat.table_id} _ _
    c.compare_exchange-found.ensures.2.0 c.from-wanted.ensures c.if-found-wanted.true
    (rw c.in-Looked.is at c.pass.invariant.within)).state_is

pub returns-then-found-from-clause-state : goal.returns-then-found-from-clause-state
returns-then-found-from-clause-state g c =
    let same = passes.same_count c.pass.view_is c.requires.own c.self.view_is g.J.Jobs.number _ c.self.invariant.count_is in
    sym (passes.late_inside c.pass.invariant refl {id = c.compare_exchange-found.new.seat.table_id} _ _
    c.compare_exchange-found.ensures.2.0 c.if-found-wanted.false (omega arith)).state_is

pub returns-else-found-from-clause-state : goal.returns-else-found-from-clause-state
returns-else-found-from-clause-state g c =
    let same = passes.same_count c.pass.view_is c.requires.own c.self.view_is g.J.Jobs.number _ c.self.invariant.count_is in
    sym (passes.none_inside c.pass.invariant refl {id = c.compare_exchange-found.new.seat.table_id} _ _
    c.compare_exchange-found.ensures.2.0 c.if-found-wanted.false (omega arith)).state_is
