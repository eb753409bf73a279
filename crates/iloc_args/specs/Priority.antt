-- The words for what the ready operations are ranked by.
use Rattle.std.specs.Prelude.{◌≢◌, codes}
use Rattle.clap.specs.Words.{Text}
use Rattle.iloc_rules.specs.declared.heuristic.Heuristic.{Heuristic}
use Rattle.iloc_rules.specs.declared.heuristic.Heuristic.TheVariants.{Chain, Slack, Descendants, Successors, Latency, Order}

-- the word for a heuristic
abbrev pub priority_word : Heuristic → Text
priority_word Chain = codes "chain"
priority_word Slack = codes "slack"
priority_word Descendants = codes "descendants"
priority_word Successors = codes "successors"
priority_word Latency = codes "latency"
priority_word Order = codes "order"

-- the text is the word for no heuristic
abbrev pub IsNoPriority : Text → Type 0
IsNoPriority text = (heuristic : Heuristic) → priority_word heuristic ≢ text
