-- The names that many proofs import, passed on from one place. Declares nothing.
pub use Rattle.std.proofs.Common.{◌≡◌, ℕ, ◌+◌, ◌*◌, ◌<◌, ◌≤◌, Bool, true, false, ◌&&◌, List, [], ◌∷◌, ◌++◌, length, get_or, take, drop, ℤ, is_some, is_none, IfSome, ◌==◌, slice_index, Some, None, codes, sum_by, Option, option_copied, sym, refl, ap, ◌∙◌, subst, ap₂, inl, inr, append_assoc, append-nil, arith, ext_get_or, eqb-true}
pub use Rattle.std.proofs.lemmas.Grind.{common_steps, flat_map-append}
pub use Rattle.std.proofs.lemmas.List.{drop_all, get_or_default, take_more}
pub use Rattle.std.proofs.lemmas.Result.{IfOk-weaker, on_ok_weaker}
pub use Rattle.std.specs.List.{flat_map, list_all, range_with_len}
pub use Rattle.iloc_ops.specs.declared.file.Block.{Block}
pub use Rattle.iloc_ops.specs.declared.op.Op.{Op}
pub use Rattle.iloc_meaning.specs.Outcome.{outcome, shown}
pub use Rattle.iloc_timed.specs.Schedule.{Table}
pub use Rattle.iloc_timed.specs.Timed.{timed_outcome}
pub use Rattle.iloc_timed.specs.declared.latencies.Latencies.{Latencies}
pub use Rattle.iloc_rules.specs.Heuristics.Listed.{heuristics}
pub use Rattle.iloc_rules.specs.Rule.{counts_by}
pub use Rattle.iloc_rules.specs.Heuristics.{priorities_under}
pub use Rattle.iloc_rules.specs.declared.heuristic.Heuristic.{Heuristic}
pub use Rattle.iloc_rules.specs.declared.heuristic.Heuristic.TheVariants.{Chain}
pub use Rattle.iloc_rules.specs.declared.memory_rule.MemoryRule.{MemoryRule}
pub use Rattle.iloc_sched.specs.Graph.GraphOf.{GraphOf, of_block}
pub use Rattle.iloc_bound.specs.Bound.{least_of_under, least_under}
pub use Rattle.iloc_optimum.specs.Optimum.{AreOrders, IsCountOf, IsOptimumOf, IsSoughtIf}
pub use Rattle.iloc_args.specs.Flags.{has}
pub use Rattle.iloc_args.specs.Rule.{memory_rule}
pub use Rattle.iloc_args.specs.declared.flag.Flag.TheVariants.{Csv, Where}
pub use Rattle.iloc_listing.proofs.Schedules.{cycles_few_where, the_greedy_under}
pub use Rattle.iloc_listing.specs.Limits.{most_cycles}
pub use Rattle.iloc_listing.specs.Listing.{bound_comment, count_ending, count_header, count_line, cycles_of, entries, listing_of_counts, opening_as, outcome_entry, schedule_entry, shown_entry, total_of_all, words_or_fault}
pub use Rattle.iloc_listing.specs.Schedules.{IsCountUnder, ranks_under}
pub use Rattle.iloc_driver.proofs.Entries.{if_ok, lined_listing, made_listing}
pub use Rattle.iloc_driver.specs.Priorities.{Own, own_of}
pub use Rattle.iloc_block_commands.specs.Compare.{AreCounts, IsCompareEntry, IsCompareListing, IsComparedCycles, IsOwnCount, column, columns, compare_ending, compare_line, counted_by, cycles_by, ending_for, fewest, opening_for, optimal, place, sums_line, tally_line}
pub use Rattle.iloc_block_commands.specs.Counts.{IsCountEntry, IsCountListing}
pub use Rattle.iloc_block_commands.specs.Optimize.{IsOptimizeEntry}
pub use Rattle.iloc_block_commands.specs.Schedule.{IsScheduleEntry}
pub use Rattle.iloc_block_commands.specs.Steps.Tallies.{added, counted}
pub use Rattle.iloc_block_commands.specs.declared.compare.ComparedCycles.{ComparedCycles}
