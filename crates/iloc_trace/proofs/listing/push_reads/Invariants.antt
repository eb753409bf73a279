use Rattle.iloc_trace.proofs.Common.{◌≡◌, ◌++◌, take, flat_map}
use Rattle.std.specs.Prelude.{codes}
use Rattle.iloc_trace.specs.Listing.{read_text}
use Rattle.iloc_trace.proofs.listing.push_reads.Given as goal

abbrev pub invariant-loop-read : goal.invariant-loop-read
invariant-loop-read l =
    l.text.items ≡ l.initial.text.items ++ flat_map (λ it. codes ", " ++ read_text it) (take l.read-index l.more)
