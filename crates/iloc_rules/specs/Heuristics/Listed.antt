-- All heuristics.
use Rattle.std.specs.Prelude.{List, [], ◌∷◌}
use Rattle.iloc_rules.specs.declared.heuristic.Heuristic.{Heuristic}
use Rattle.iloc_rules.specs.declared.heuristic.Heuristic.TheVariants.{Chain, Slack, Descendants, Successors, Latency, Order}

-- the heuristics, in the order in which they are listed
abbrev pub heuristics : List Heuristic
heuristics = Chain ∷ Slack ∷ Descendants ∷ Successors ∷ Latency ∷ Order ∷ []
