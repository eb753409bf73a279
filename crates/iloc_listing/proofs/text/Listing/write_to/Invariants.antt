use Rattle.iloc_listing.proofs.Common.{[], ◌++◌, drop, flat_map, JoinsTo}
use Rattle.iloc_listing.proofs.text.Listing.write_to.Given as goal

abbrev pub invariant-loop-entry : goal.invariant-loop-entry
invariant-loop-entry g l =
    JoinsTo (g.W.Write.contents l.fn.writer) (g.W.Write.contents l.writer) [] l.buffer.items l.fn.self
    (flat_map (λ entry. entry.text) (drop l.entry-index l.entry-items) ++ l.ending.items)
