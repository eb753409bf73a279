use Rattle.std.proofs.Common.{ap, arith}
use Rattle.iloc_board.proofs.Keeps as keeps
use Rattle.iloc_board.proofs.Passes as passes
use Rattle.iloc_board.proofs.board.Board.pass.Goals as goal

pub split_seat-seat-requires : goal.split_seat-seat-requires
split_seat-seat-requires g c = (
  passes.root_table _ _ _ _ c.root.view_is c.self.view_is c.requires.own,
  omega (arith, c.self.invariant.words),
  keeps.makes_kept c.self.inside.table.shared.key c.root.inside.seat.id c.root.inside.seat.me.0
      (ap (λ m. m.0.role) c.root.invariant.seat),
)
