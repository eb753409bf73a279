use Rattle.iloc_driver.proofs.Common.{◌≡◌, ◌+◌, [], map, length, All, range_with_len, state}
use Rattle.iloc_board.specs.declared.board.state.State.TheVariants as about
use Rattle.iloc_driver.proofs.workers.shifts.Given as goal

abbrev pub invariant-loop-desk : goal.invariant-loop-desk
invariant-loop-desk g l = record {
  own : l.root.board ≡ l.board;
  workers : l.root.workers ≡ l.fn.root.workers;
  left : l.root.made + length l.desk-iterator.rest.items ≡ l.root.workers;
  gathered : l.root.gathered ≡ [];
  ready : All (λ s. (s.pass.board ≡ s.board.now) × (s.board.now ≡ l.board) × (state s.pass ≡ about.Free)) l.made.items;
  numbered : map (λ s. s.pass.journal.worker) l.made.items ≡ range_with_len 0 l.root.made;
}
