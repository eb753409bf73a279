-- The names that many proofs import, passed on from one place. Declares nothing.
pub use Rattle.std.proofs.Common.{◌≡◌, ℕ, ◌+◌, ◌≤◌, Bool, true, false, ◌&&◌, List, [], ◌∷◌, ◌++◌, map, length, ℤ, is_some, is_none, if◌then◌else◌, IsTrue, ◌==◌, slice_get, Some, None, Ok, Err, codes, Option, Result, option_map, sym, refl, ap, ◌∙◌, subst, ap₂, inl, inr, append-nil, arith, rules, eqb-true}
pub use Rattle.std.proofs.Math.Path.{transport}
pub use Rattle.std.specs.List.{AllZip, list_all, zip}
pub use Rattle.std.specs.declared.alloc.Global.{Global}
pub use Rattle.std.specs.declared.string.String.{String}
pub use Rattle.iloc_ops.specs.declared.file.Block.{Block}
pub use Rattle.iloc_ops.specs.declared.op.Op.{Op}
pub use Rattle.iloc_text.proofs.Answer.{one_answer}
pub use Rattle.iloc_meaning.specs.Memory.{words_from}
pub use Rattle.iloc_timed.specs.Cycles.{cycles}
pub use Rattle.iloc_timed.specs.Schedule.{Table}
pub use Rattle.iloc_timed.specs.declared.latencies.Latencies.{Latencies}
pub use Rattle.iloc_rows.specs.EitherSlot.{placed}
pub use Rattle.iloc_rows.specs.declared.proposal.Proposed.{Proposed}
pub use Rattle.iloc_rules.specs.declared.memory_rule.MemoryRule.{MemoryRule}
pub use Rattle.iloc_bound.proofs.LeastBound.{least_bound, ruled_least_bound}
pub use Rattle.iloc_judge.specs.Checked.{DoTheSame, MayPass}
pub use Rattle.iloc_board.specs.Finished.{IsDoneBy, ReceiptView}
pub use Rattle.iloc_args.specs.Flags.{has}
pub use Rattle.iloc_args.specs.Rule.{memory_rule}
pub use Rattle.iloc_args.specs.declared.flag.Flag.TheVariants.{Csv, Cycles, Disambiguate, EitherSlot, Outputs, Where}
pub use Rattle.iloc_args.specs.declared.request.Request.{Request}
pub use Rattle.iloc_args.specs.declared.request.Task.{Task}
pub use Rattle.iloc_listing.proofs.Schedules.{are_greedy, cycles_within, greedy_all_same_as, greedy_long, keep_outcomes, total_small}
pub use Rattle.iloc_listing.specs.Listing.{block_head, count_line, cycles_of, opening_as, outcome_entry, schedule_entry, total_of_all, words_or_fault}
pub use Rattle.iloc_listing.specs.Schedules.{IsGreedyAs, IsScheduleOf, ranks_under}
pub use Rattle.iloc_driver.proofs.Entries.{listing_after_also, listing_also, one_listing, one_listing_after}
pub use Rattle.iloc_driver.specs.Command.{initial_memory}
pub use Rattle.iloc_driver.specs.Entries.{AreEntries, IsListingAfter, IsListingOf, no_ending}
pub use Rattle.iloc_driver.specs.Fault.{finding_of, status_of_finding}
pub use Rattle.iloc_driver.specs.Priorities.{Own, own_of}
pub use Rattle.iloc_driver.specs.Run.{IsListingFor, ListsAs, takes_rows}
pub use Rattle.iloc_driver.specs.Run.Apart.{Held, Holds}
pub use Rattle.iloc_driver.specs.declared.commands.Finding.{Finding}
pub use Rattle.iloc_driver.specs.declared.commands.Finding.TheVariants.{Passed}
pub use Rattle.iloc_block_commands.specs.Compare.{IsCompareEntry, IsCompareListing, IsComparedCycles, bound_of, compare_ending, compare_header, compare_line, ending_for, opening_for, optimal}
pub use Rattle.iloc_block_commands.specs.declared.compare.ComparedCycles.{ComparedCycles}
pub use Rattle.iloc_row_commands.specs.Check.{Checks, IsCheckEntry, ListsChecked, options_by, options_of}
pub use Rattle.iloc_farm.specs.Commands.{command_of}
pub use Rattle.iloc_farm.specs.Laws.{AskAlike, ChecksIgnoreWorkers, CountedOptimaAreOptimal, GreedySchedulesCanBeListed, HandInsDontChangeTheTask, ListingsIgnoreWorkers, OptimaIgnoreWorkers, PassedChecksKeepOutcomes, PassedChecksMayPass, SimulatingListsRuns, searches}
