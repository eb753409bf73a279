-- The names that many proofs import, passed on from one place. Declares nothing.
pub use Rattle.std.proofs.Common.{◌≡◌, ℕ, zero, suc, ◌+◌, ◌-◌, ◌<◌, ◌≤◌, max, Bool, true, false, cond, not, ◌&&◌, ◌||◌, ◌≢◌, ◌⊎◌, List, [], ◌∷◌, ◌++◌, map, length, get_or, take, drop, set, is_some, IfErr, nat_eq, nat_lt, nat_le, ◌==◌, slice_set, Some, None, Ok, Err, MatchBool, count_by, Option, Result, MatchOption, option_to_list, filter_map, unwrap_or, sym, refl, ap, ◌∙◌, subst, ap₂, subst₂, inl, inr, append_assoc, append-nil, arith, length-append, Bor, ltb-false, ltb-true, lt-ltb, eq-eqb, ne_eqb, eqb-true}
pub use Rattle.std.proofs.lemmas.Bool.{and_from, and_right, cases_eq, cases_lt}
pub use Rattle.std.proofs.lemmas.List.{get_or_default, get_or_past, length-map, map-append}
pub use Rattle.std.proofs.lemmas.Result.{IfErr-weaker, err_from_is_err_and}
pub use Rattle.std.specs.List.{AllByRecursion, join_with_byte, list_any, range_with_len}
pub use Rattle.iloc_ops.specs.Limits.{MAX_INPUT, MAX_OPS}
pub use Rattle.iloc_ops.specs.declared.file.Block.{Block}
pub use Rattle.iloc_ops.specs.declared.op.Op.{Op}
pub use Rattle.iloc_ops.specs.declared.op.Op.TheVariants.{Nop}
pub use Rattle.iloc_text.proofs.ScheduleLines.Says.{nothing_alone, one_said, said_bad, said_good, said_large}
pub use Rattle.iloc_text.proofs.Splitting.{lines_are, lines_few}
pub use Rattle.iloc_text.specs.Files.{AreLines}
pub use Rattle.iloc_text.specs.Lines.{lines_left, lines_of}
pub use Rattle.iloc_text.specs.ScheduleLines.{IsScheduleLine, Said, Says, SaysSomething, SaysSomethingWidely, SaysWidely}
pub use Rattle.iloc_text.specs.ScheduleLines.Said.{cycles, head, nothing, row, total}
pub use Rattle.iloc_text.specs.declared.fault.ReadFault.TheVariants.{BadLine, InputTooLong, NoMemory, TooManyOperations}
pub use Rattle.iloc_timed.specs.declared.row.Row.{Row}
pub use Rattle.iloc_rows.specs.EitherSlot.{AllKeepUnits, IsFirstThatBreaks, exchanged, in_either_slot, with_either_slot}
pub use Rattle.iloc_rows.specs.Laws.{AreWithinLimits, PlacedRowsAreWithinLimits, SingleOperationsKeepTheUnits, SubmissionsApartAreWithinLimits, SubmissionsAreWithinLimits, TextsHaveAnAnswer}
pub use Rattle.iloc_rows.specs.Proposing.{AllFit, Fits, IsNumbered, block_of, claims_of, cycles_in, filled, first_unread, fronts, head_number, is_of_block, last_block, last_of, numbered, of_last, op_count, ops_in, proposal_of, proposals_of, proposes, row_in, rows_of, slot, unread_in, unread_of}
pub use Rattle.iloc_rows.specs.Steps.Growth.{AddsTold, Becomes, HasProposed, RowAdds, Turns, at_place, later_place, none_proposed, or_this, place, with_cycles, with_row, with_unread}
pub use Rattle.iloc_rows.specs.Submissions.{AreRefusedFor, BlocksAreRefused, BlocksEnd, Denotes, HasNoBlocks, HaveFault, HaveFirstFault, HoldsTooManyOperations, IsFaulty, IsOfNoBlock, IsRefused, Propose, ProposeApart, RowsAreRefused, StartWithSchedule, TellAll}
pub use Rattle.iloc_rows.specs.Told.{Tells, Told, told_of}
pub use Rattle.iloc_rows.specs.Told.Told.{read, unread}
pub use Rattle.iloc_rows.specs.declared.fault.RowsFault.{RowsFault}
pub use Rattle.iloc_rows.specs.declared.fault.RowsFault.TheVariants.{NoBlocks, NoSuchBlock, Read}
pub use Rattle.iloc_rows.specs.declared.proposal.Proposed.{Proposed}
