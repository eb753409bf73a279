-- The names that many proofs import, passed on from one place. Declares nothing.
pub use Rattle.std.proofs.Common.{◌≡◌, ℕ, ◌+◌, ◌≤◌, true, false, List, [], ◌∷◌, ◌++◌, map, length, get_or, ℤ, IfSome, Some, None, codes, All, Option, option_copied, sym, refl, ap, ◌∙◌, subst, ap₂, append_assoc, append-nil, arith, take_all}
pub use Rattle.std.proofs.lemmas.Result.{IfOk-weaker, on_ok_weaker}
pub use Rattle.std.specs.List.{flat_map}
pub use Rattle.iloc_ops.specs.declared.op.Op.{Op}
pub use Rattle.iloc_timed.specs.declared.latencies.Latencies.{Latencies}
pub use Rattle.iloc_rules.proofs.PriorityValues.Named.{length-priorities_by_where, ruled_priorities}
pub use Rattle.iloc_rules.specs.Rule.{counts_by}
pub use Rattle.iloc_rules.specs.Heuristics.{priorities_under}
pub use Rattle.iloc_rules.specs.declared.memory_rule.MemoryRule.{MemoryRule}
pub use Rattle.iloc_sched.specs.Graph.GraphOf.{GraphOf, of_block}
pub use Rattle.iloc_bound.specs.Bound.{least_of_under, least_under}
pub use Rattle.iloc_graph.specs.Listing.{IsCluster}
pub use Rattle.iloc_args.specs.Rule.{memory_rule}
pub use Rattle.iloc_listing.specs.Listing.{block_head, cycles_of, total_of_all}
pub use Rattle.iloc_driver.proofs.Entries.{if_ok, made_listing, parts_joined}
pub use Rattle.iloc_view_commands.specs.Explain.{AreSaid, IsExplainEntry}
