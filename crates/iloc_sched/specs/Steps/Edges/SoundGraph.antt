-- What always holds of the tables of a dependence graph.
use Rattle.std.specs.Prelude.{◌≡◌, List, map}
use Rattle.iloc_ops.specs.declared.op.Op.{Op}
use Rattle.iloc_timed.specs.Kinds.{kind}
use Rattle.iloc_timed.specs.Latency.{latency}
use Rattle.iloc_rules.specs.declared.memory_rule.MemoryRule.TheVariants.{Book}
use Rattle.iloc_rules.specs.Renaming.{renamed}
use Rattle.iloc_rules.specs.Rule.{counts_by}
use Rattle.iloc_sched.specs.declared.tables.Tables.{Tables}
use Rattle.iloc_sched.specs.Steps.Graph.{IsGraphOf, IsGraphWhere}
use Rattle.iloc_sched.specs.Steps.Views.{graph_of}

-- they have the kinds of their operations, their latencies, and the edges between them where all count
pub record IsByTheBook (t : Tables) : Type 0 where
  pub kinds : t.kinds.items ≡ map kind t.ops.items
  pub own : t.own.items ≡ map (latency t.latencies) t.ops.items
  pub graph : IsGraphOf Book t.latencies t.ops.items (graph_of t.edges)

-- the tables `t` are sound by their own rule of memory, and each near pair has its edge
pub record IsSound (t : Tables) : Type 0 where
  pub kinds : t.kinds.items ≡ map kind t.ops.items
  pub own : t.own.items ≡ map (latency t.latencies) t.ops.items
  pub graph : IsGraphWhere (counts_by t.rule t.ops.items) t.latencies t.ops.items (graph_of t.edges)
  pub near : IsGraphOf t.rule t.latencies t.ops.items (graph_of t.edges)

-- the tables `t` are sound, and their operations are those of a block
pub record IsOfBlock (t : Tables) : Type 0 where
  pub sound : IsSound t
  pub block : List Op
  pub named : t.ops.items ≡ renamed block
