use Rattle.iloc_block_commands.proofs.Common.{◌≡◌, ◌+◌, ◌++◌, drop, count_line, entries, opening_as, count_header}
use Rattle.iloc_block_commands.proofs.counts.CountListerFarmedLister.listing.Given as goal

abbrev pub invariant-loop-index : goal.invariant-loop-index
invariant-loop-index l =
    l.text.items
    ++ entries (count_line l.csv) (l.index + 1) (drop l.index l.block-items) (drop l.index l.cycles.items)
    ≡ opening_as l.csv count_header ++ entries (count_line l.csv) 1 l.block-items l.cycles.items
