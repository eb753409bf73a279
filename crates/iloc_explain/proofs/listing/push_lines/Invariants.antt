use Rattle.std.specs.Prelude.{option_copied}
use Rattle.iloc_explain.proofs.Common.{◌≡◌, ◌+◌, ◌++◌, length, drop, without_nops}
use Rattle.iloc_explain.specs.Listing.{beginning, each_after, explained_lines, line_after}
use Rattle.iloc_explain.proofs.listing.push_lines.Given as goal

abbrev pub invariant-loop-op : goal.invariant-loop-op
invariant-loop-op l =
    (l.text.items ++ each_after (beginning (option_copied l.block))
    (explained_lines (line_after (option_copied l.block)) l.j (drop l.j l.explained) (without_nops (drop l.op-index l.ops)) (drop l.j l.issued))
    ≡ l.initial.text.items ++ each_after (beginning (option_copied l.block))
    (explained_lines (line_after (option_copied l.block)) 0 l.explained (without_nops l.ops) l.issued))
    × (l.j + length (without_nops (drop l.op-index l.ops)) ≡ length l.issued)
