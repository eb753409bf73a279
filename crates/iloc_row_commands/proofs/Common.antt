-- The names that many proofs import, passed on from one place. Declares nothing.
pub use Rattle.std.proofs.Common.{◌≡◌, ℕ, zero, suc, ◌+◌, ◌*◌, ◌<◌, ◌≤◌, max, Bool, true, false, not, ◌⊎◌, List, [], ◌∷◌, ◌++◌, length, take, ℤ, Some, None, codes, fold, sum_by, Option, option_map, find, sym, refl, ap, ◌∙◌, subst, inl, inr, true≢false, append_assoc, arith, rules, tests}
pub use Rattle.std.proofs.lemmas.Iterator.{YieldsList-from_range, YieldsList-from_slice}
pub use Rattle.std.proofs.lemmas.Iterator.Search.{all_from_yields_List, find_from_yields_List}
pub use Rattle.std.proofs.lemmas.Result.{on_ok_weaker}
pub use Rattle.std.specs.List.{list_all, range_with_len}
pub use Rattle.iloc_ops.specs.declared.file.Block.{Block}
pub use Rattle.iloc_ops.specs.declared.op.Op.{Op}
pub use Rattle.iloc_timed.specs.Cycles.{cycles}
pub use Rattle.iloc_timed.specs.Limits.{MAX_ROWS}
pub use Rattle.iloc_timed.specs.Rows.{holds, issue_cycle, row_at, slots}
pub use Rattle.iloc_timed.specs.Schedule.{Table}
pub use Rattle.iloc_timed.specs.declared.latencies.Latencies.{Latencies}
pub use Rattle.iloc_rows.specs.declared.proposal.Proposed.{Proposed}
pub use Rattle.iloc_rules.specs.Greedy.{IsGreedy, IsGreedyBy, IsGreedyWhere, chosen, ready}
pub use Rattle.iloc_sched.specs.Graph.GraphOf.{GraphOf, of_block}
pub use Rattle.iloc_bound.specs.Bound.{least_of_under, least_under}
pub use Rattle.iloc_optimum.specs.Optimum.{IsSoughtIf}
pub use Rattle.iloc_verdict.specs.Entry.Reasons.{reasons_told}
pub use Rattle.iloc_listing.proofs.Schedules.{cycles_few_where, cycles_within, the_greedy, the_greedy_under}
pub use Rattle.iloc_listing.specs.Limits.{most_cycles, most_proposed_cycles}
pub use Rattle.iloc_listing.specs.Listing.{block_head, cycles_of}
pub use Rattle.iloc_driver.proofs.Entries.{parts_joined}
pub use Rattle.iloc_driver.specs.Entries.{AppendsEntry}
pub use Rattle.iloc_driver.specs.Fault.{finding_of}
pub use Rattle.iloc_row_commands.specs.Check.{IsCheckEntry, IsSmall, check_head, options_of}
pub use Rattle.iloc_row_commands.specs.Explain.Departure.{choice_at, departure, leaves_choice, take_the_same}
pub use Rattle.iloc_row_commands.specs.Explain.Explained.{IsRowsExplanation, not_lawful}
pub use Rattle.iloc_row_commands.specs.declared.explain.explained.ExplainedRows.{ExplainedRows}
