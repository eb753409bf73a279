use Rattle.iloc_block_commands.proofs.Common.{◌≡◌, ◌+◌, ◌++◌, drop, entries, compare_line, opening_for}
use Rattle.iloc_block_commands.proofs.compare.CompareListerFarmedLister.listing.Given as goal

abbrev pub invariant-loop-index : goal.invariant-loop-index
invariant-loop-index l =
    l.text.items
    ++ entries (compare_line l.csv) (l.index + 1) (drop l.index l.block-items) (drop l.index l.found.items)
    ≡ opening_for l.request ++ entries (compare_line l.csv) 1 l.block-items l.found.items
