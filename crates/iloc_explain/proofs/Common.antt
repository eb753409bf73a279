-- The names that many proofs import, passed on from one place. Declares nothing.
pub use Rattle.std.proofs.Common.{◌≡◌, ℕ, zero, suc, ◌+◌, ◌-◌, ◌<◌, ◌≤◌, min, max, Bool, true, false, not, ◌&&◌, ◌≢◌, ◌⊎◌, ◌↔◌, List, [], ◌∷◌, ◌++◌, map, reverse, length, get_or, take, drop, is_some, IfSome, IsTrue, nat_lt, nat_le, ◌==◌, slice_get, slice_index, Some, None, codes, fold, Contains, filter, Option, MatchOption, option_map, option_to_list, find, sym, refl, ap, ◌∙◌, subst, ap₂, inl, inr, append_assoc, append-nil, arith, length-append, get_or-set_other, get_or-set_same, rules}
pub use Rattle.std.proofs.lemmas.Bool.{and_from, and_parts, cases_eq, cases_lt, cases_order, eq-eqb, eqb-false, eqb-true, iff_false, leb-false, lt-ltb, ltb-true, ne_eqb, or_cases}
pub use Rattle.std.proofs.lemmas.Grind.{common_steps, flat_map-append}
pub use Rattle.std.proofs.lemmas.List.{drop_more, get_or-drop, get_or-take, get_or_default, length-drop, length-take, map-append, reverse-append, take-append-drop, take-append-le, take_more}
pub use Rattle.std.proofs.lemmas.List.Elements.{filter-append}
pub use Rattle.std.proofs.lemmas.List.FromFn.{get_or-map-range_with_len, length-map-range_with_len, map-range_with_len_more}
pub use Rattle.std.proofs.lemmas.List.Sums.{sum_by-cons, sum_by_push}
pub use Rattle.std.proofs.lemmas.Option.{none-some, same_Some, slice_get-get_or, slice_get_read, slice_get_within}
pub use Rattle.std.proofs.lemmas.Result.{on_ok_weaker}
pub use Rattle.std.specs.BTreeMap.{is_at}
pub use Rattle.std.specs.List.{AllByRecursion, flat_map, list_any, range_with_len, sum_by}
pub use Rattle.std.specs.List.Sorted.{IsStrictlySortedBy}
pub use Rattle.std.specs.Ordering.{MatchOrdering, is_eq, match_ordering, nat_cmp, ordering_then}
pub use Rattle.iloc_ops.specs.declared.op.Op.{Op}
pub use Rattle.iloc_ops.specs.declared.op.Op.TheVariants.{Nop}
pub use Rattle.iloc_meaning.proofs.Cases.{by_bool}
pub use Rattle.iloc_meaning.specs.Trace.{op_at}
pub use Rattle.iloc_timed.proofs.Arrivals.{arrival_le_cycles, cycles_le, issued_within, one_known, zero_known}
pub use Rattle.iloc_timed.proofs.Issues.{holds_one, holds_zero, issued_there, stands_there}
pub use Rattle.iloc_timed.proofs.WholeRuns.{short_latency}
pub use Rattle.iloc_timed.specs.Cycles.{cycles}
pub use Rattle.iloc_timed.specs.Kinds.{is_store, kind}
pub use Rattle.iloc_timed.specs.Latency.{latency}
pub use Rattle.iloc_timed.specs.Rows.{IsTable, empty_row, holds, issue_cycle, row_at, slots, times_issued}
pub use Rattle.iloc_timed.specs.declared.latencies.Latencies.{Latencies}
pub use Rattle.iloc_timed.specs.declared.row.Row.{Row}
pub use Rattle.iloc_rules.proofs.Basics.Members.{any_at, contains_from, empty_from, from_any, from_append, from_filter, in_filter, in_from, in_left, in_right}
pub use Rattle.iloc_rules.proofs.Basics.Ordered.{ordered_filter}
pub use Rattle.iloc_rules.proofs.DelayPairs.DelayBounds.{delay_at_least_where, delay_at_most_where}
pub use Rattle.iloc_rules.proofs.Renamed.MentionedSources.{length-renamed_by}
pub use Rattle.iloc_rules.specs.Delays.{Counts, IsDelayPairWhere, delays_where}
pub use Rattle.iloc_rules.specs.Greedy.{IsGreedyWhere, can_go_beside, chosen_with, first_of_all, may_stand_beside, on_units}
pub use Rattle.iloc_rules.specs.Lawful.{IsLawfulWhere}
pub use Rattle.iloc_rules.specs.Renaming.{without_nops}
pub use Rattle.iloc_rules.specs.Rule.{counts_by}
pub use Rattle.iloc_rules.specs.Starts.{start_where}
pub use Rattle.iloc_rules.specs.Steps.Choosing.{GoesBefore}
pub use Rattle.iloc_rules.specs.Steps.Members.{In}
pub use Rattle.iloc_rules.specs.declared.delay_pairs.Pair.{Pair}
pub use Rattle.iloc_rules.specs.declared.delay_pairs.TheConstants.{LONGEST_DELAY}
pub use Rattle.iloc_rules.specs.declared.memory_rule.MemoryRule.{MemoryRule}
pub use Rattle.iloc_explain.specs.Chain.{chain_by, chains_by}
pub use Rattle.iloc_explain.specs.Path.{Begins, Binds, HadRoom, IsLastToArrive, IsPath, LeadBack, origin, span}
pub use Rattle.iloc_explain.specs.ReadyList.{ready_under}
pub use Rattle.iloc_explain.specs.Steps.Queue.{AreLater, IsComing, IsInOrder, IsKept, IsKnown, IsReadyList, IsReadyPlace, IsRowAt, Place, coming_cmp, number, place_at, place_cmp, shown, without, without_place}
pub use Rattle.iloc_explain.specs.Waiting.{IsReadyAt, WaitsForAll, WaitsUntil, ends_at, issue_order, waited_until}
pub use Rattle.iloc_explain.specs.declared.explanation.Explained.{Explained}
pub use Rattle.iloc_explain.specs.declared.path.Stretch.TheVariants.{Delay, Free, Held}
