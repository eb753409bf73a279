use Rattle.iloc_listing.proofs.Common.{◌-◌, JoinsTo, empty_rows}
use Rattle.iloc_listing.proofs.text.write_empty_rows.Given as goal

abbrev pub invariant-loop-row : goal.invariant-loop-row
invariant-loop-row g l =
    JoinsTo (g.W.Write.contents l.fn.writer) (g.W.Write.contents l.writer) l.fn.buffer.items l.buffer.items
    (empty_rows l.rows) (empty_rows (l.rows - l._row))
