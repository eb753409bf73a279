use Rattle.iloc_listing.proofs.Common.{◌≤◌, length, drop, JoinsTo, bytes_before, unfolded}
use Rattle.iloc_listing.proofs.text.FoldedText.write_to.Given as goal

abbrev pub invariant-loop-run : goal.invariant-loop-run
invariant-loop-run g l = record {
  so_far : JoinsTo (g.W.Write.contents l.fn.writer) (g.W.Write.contents l.writer) l.fn.buffer.items l.buffer.items
      l.fn.self (unfolded (drop l.run-index l.run-items) l.rest);
  fits : bytes_before (drop l.run-index l.run-items) ≤ length l.rest;
}
