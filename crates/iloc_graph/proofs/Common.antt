-- The names that many proofs import, passed on from one place. Declares nothing.
pub use Rattle.std.proofs.Common.{◌≡◌, ℕ, zero, suc, ◌+◌, ◌-◌, ◌<◌, ◌≤◌, Bool, true, false, not, ◌&&◌, ◌||◌, eqb, ◌⊎◌, List, [], ◌∷◌, ◌++◌, map, length, get_or, take, drop, IsTrue}
pub use Rattle.std.proofs.Common.{slice_index, codes, All, Contains, Any, sym, refl, ap, ◌∙◌, subst, inl, inr, append_assoc, append-nil, add-one, arith, take_all, drop-cons}
pub use Rattle.std.proofs.lemmas.Bool.{and_from, and_parts, false_from_ne_true, false≢true, not-true, not_from_false, or_cases, or_left, or_right}
pub use Rattle.std.proofs.lemmas.Grind.{common_steps}
pub use Rattle.std.proofs.lemmas.List.{get_or_default, map-append, take_more}
pub use Rattle.std.proofs.lemmas.List.Kept.{AllPairs-from_increasing, Contains-dedup_nat, Contains-from_dedup}
pub use Rattle.std.specs.List.{AllPairs, dedup, flat_map, list_any, range_with_len}
pub use Rattle.iloc_ops.specs.declared.op.Op.{Op}
pub use Rattle.iloc_meaning.specs.Trace.{op_at}
pub use Rattle.iloc_timed.specs.Latency.{latency}
pub use Rattle.iloc_timed.specs.declared.latencies.Latencies.{Latencies}
pub use Rattle.iloc_rules.proofs.Basics.Maxima.{fold_max_each, fold_max_reached}
pub use Rattle.iloc_rules.proofs.Basics.Members.{any_at, contains_from, from_any, from_append, from_filter, from_map, from_range, in_at, in_filter, in_from, in_left, in_map, in_range_from, in_right}
pub use Rattle.iloc_rules.proofs.Basics.Rising.{Rises, rises_range, rises_same}
pub use Rattle.iloc_rules.proofs.DelayPairs.DelayBounds.{delay_at_least_where, delay_at_most_where, delay_is_where, from_when, in_when}
pub use Rattle.iloc_rules.specs.Delays.{IsDelayPairWhere, delays_where, keeps_order_where, memory_delays_where, reads_stored, uses_result, when}
pub use Rattle.iloc_rules.specs.Renaming.{without_nops}
pub use Rattle.iloc_rules.specs.Rule.{counts_by}
pub use Rattle.iloc_rules.specs.Steps.Members.{In}
pub use Rattle.iloc_rules.specs.declared.delay_pairs.Pair.{Pair}
pub use Rattle.iloc_rules.specs.declared.memory_rule.MemoryRule.{MemoryRule}
pub use Rattle.iloc_sched.specs.Graph.Near.{IsNearBy, IsNearPairBy}
pub use Rattle.iloc_sched.specs.declared.edges.Edge.{Edge}
pub use Rattle.iloc_explain.specs.Chain.{Continues, IsChainFrom, IsNext, chain_by, chains_by}
pub use Rattle.iloc_graph.specs.Laws.{BlocksHaveOneCluster, ChainsRunAlongNearestPairs, NearestPairsImplyAll, RunsAlong, WaitsForNearest}
pub use Rattle.iloc_graph.specs.Listing.{edge_line, escaped_byte, head_lines, link, node_line, node_lines, path_line}
pub use Rattle.iloc_graph.specs.Nearest.{comes_after, is_near, is_ordered, is_passed, is_taken_over, longest_delay, near_to, nearest_pairs, nearest_to, pair_of, sources, takes_over_by, unpassed}
pub use Rattle.iloc_graph.specs.Steps.InOrder.{IsInOrder}
