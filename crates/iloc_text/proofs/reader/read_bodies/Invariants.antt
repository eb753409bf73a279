use Rattle.iloc_text.proofs.Common.{◌≡◌, ◌+◌, ◌≤◌, List, length, Block, lines_of, HasTaken, Leaves, answer_from}
use Rattle.iloc_text.proofs.reader.read_bodies.Given as goal

-- the blocks so far have the answer of all lines on those that are left
abbrev pub invariant-loop-op : goal.invariant-loop-op
invariant-loop-op g l = record {
  counted : l.number + length (lines_of l.rest) ≡ l.fn.before + length (lines_of l.fn.text);
  fewer : length (lines_of l.rest) ≤ length (lines_of l.fn.text);
  stands : (start : _) (blocks : List Block) → HasTaken g.T.TakeBlocks.took start l.fn.taker l.fn.open_block blocks
      → Leaves (HasTaken g.T.TakeBlocks.took start l.taker l.open_block) (answer_from blocks (l.fn.before + 1) (lines_of l.fn.text))
      l.number (lines_of l.rest);
}

abbrev pub decreases-loop-op : goal.decreases-loop-op
decreases-loop-op g l = length (lines_of l.rest)
