-- What holds of tables to which operations are added.
use Rattle.std.specs.Prelude.{ℕ, ◌+◌, ◌*◌, ◌≡◌, ◌≤◌, List, length, map, vec_capacity}
use Rattle.iloc_ops.specs.declared.op.Op.{Op}
use Rattle.iloc_timed.specs.Kinds.{kind}
use Rattle.iloc_timed.specs.Latency.{latency}
use Rattle.iloc_rules.specs.declared.memory_rule.MemoryRule.TheVariants.{Book}
use Rattle.iloc_rules.specs.Renaming.{numbering, renamed_by}
use Rattle.iloc_sched.specs.declared.edges.lasts.Lasts.{Lasts}
use Rattle.iloc_sched.specs.declared.renaming.Names.{Names}
use Rattle.iloc_sched.specs.declared.tables.Tables.{Tables}
use Rattle.iloc_sched.specs.Steps.Renaming.CurrentNames.{current_of}
use Rattle.iloc_sched.specs.Steps.Edges.Lasts.{IsLasts}
use Rattle.iloc_sched.specs.Steps.Renaming.NamingWalk.{Named}
use Rattle.iloc_sched.specs.Steps.Edges.PartialGraph.{HasCapacity, IsPartialGraph}
use Rattle.iloc_sched.specs.Steps.Views.{graph_of}

-- the tables have the kinds of their operations, their latencies, and the edges between them, and what
-- stands last is known
pub record IsFilling (t : Tables) (lasts : Lasts) : Type 0 where
  pub kinds : t.kinds.items ≡ map kind t.ops.items
  pub own : t.own.items ≡ map (latency t.latencies) t.ops.items
  pub partial : IsPartialGraph Book t.latencies t.ops.items (graph_of t.edges) (length t.ops.items)
  pub known : IsLasts t.ops.items lasts (length t.ops.items)
  pub starts : length t.edges.starts.items ≡ length t.ops.items + 1
  pub count : length t.edges.edges.items + length lasts.loads.items ≤ 5 * length t.ops.items

-- the tables `t` have the operations `done` of a block, renamed, and `names` has what the next one meets
pub record IsGathered (done : List Op) (t : Tables) (lasts : Lasts) (names : Names) : Type 0 where
  pub named : Named done names.given (current_of names)
  pub ops : t.ops.items ≡ renamed_by done (numbering done)
  pub filling : IsFilling t lasts

-- there is capacity for n operations
pub record CanHold (t : Tables) (n : ℕ) : Type 0 where
  pub ops : n ≤ vec_capacity t.ops
  pub kinds : n ≤ vec_capacity t.kinds
  pub own : n ≤ vec_capacity t.own
  pub edges : HasCapacity t.edges n
