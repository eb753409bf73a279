use Rattle.std.proofs.Common.{◌≡◌}
use Rattle.iloc_board_tests.proofs.steps.act_all.Given as goal

abbrev pub invariant-loop-it : goal.invariant-loop-it
invariant-loop-it g l = record { own : l.pass.board ≡ l.board }
