-- What is said of rows that aren't issued as their block asks for.
use Rattle.std.specs.Prelude.{◌≡◌, ◌≢◌, ◌<◌, ◌≤◌, List, length, All, AllPairs}
use Rattle.iloc_ops.specs.declared.op.Op.{Op}
use Rattle.iloc_timed.specs.declared.latencies.Latencies.{Latencies}
use Rattle.iloc_timed.specs.declared.row.Row.{Row}
use Rattle.iloc_facts.specs.Lawfulness.{AreLeftOut, AreAdded}
use Rattle.iloc_facts.specs.declared.fact.Reasons.{Reasons}
use Rattle.iloc_facts.specs.Facts.{IsFact}

-- what is left out and added is, and each line is a fact, of which no two are alike; there are at most eight, and more only then
pub record AreReasons (lat : Latencies) (block ops : List Op) (rows : List Row) (reasons : Reasons) : Type 0 where
  pub left_out : AreLeftOut block ops reasons.left_out
  pub added : AreAdded block ops rows reasons.added
  pub facts : All (IsFact lat block ops rows) reasons.facts.items
  pub once : AllPairs (λ one other. one ≢ other) reasons.facts.items
  pub few : length reasons.facts.items ≤ 8
  pub more : length reasons.facts.items < 8 → reasons.more ≡ 0
