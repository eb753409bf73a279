-- The names that many proofs import, passed on from one place. Declares nothing.
pub use Rattle.std.proofs.Common.{◌≡◌, ℕ, zero, suc, ◌+◌, ◌-◌, ◌%◌, ◌^◌, ◌<◌, ◌≤◌, max, Bool, true, false, cond, ◌||◌, ◌≢◌, ◌⊎◌, List, [], ◌∷◌, ◌++◌, map, length, get_or, take, ℤ, pos, IfSome, if◌then◌else◌, IsTrue, nat_lt, nat_le, ◌==◌, slice_index, slice_index_or, slice_set, Some, None, fold, sum_by, count_by, filter, Option, option_map, option_to_list, unwrap_or, sym, refl, ap, ◌∙◌, subst, ap₂, inl, inr, true≢false, append_assoc, append-nil, add-one, arith, length-set, get_or-set_other, get_or-set_same, ext_get_or, rules, below_more, eq-eqb, ne_eqb, le-leb, leb-true}
pub use Rattle.std.proofs.Math.Nat.{add_comm, mod-add-mod}
pub use Rattle.std.proofs.Math.Path.{fun_ext}
pub use Rattle.std.proofs.lemmas.Bool.{cases_eq, cases_lt, false≢true, or_cases}
pub use Rattle.std.proofs.lemmas.List.{get_or-map, get_or_default, length-map, length_push, map-append}
pub use Rattle.std.proofs.lemmas.List.Sums.{length-filter, sum_by-append, sum_by-cons, sum_by-set}
pub use Rattle.std.proofs.lemmas.Result.{IfOk-weaker}
pub use Rattle.std.proofs.lemmas.Simd.{map-map}
pub use Rattle.std.specs.List.{list_any, range_with_len}
pub use Rattle.iloc_ops.specs.Registers.{defined, used, with_registers}
pub use Rattle.iloc_ops.specs.declared.op.Op.{Op}
pub use Rattle.iloc_ops.specs.declared.op.Op.TheVariants.{Add, AddI, LoadAI, LoadI, Lshift, LshiftI, Mult, MultI, Nop, Rshift, RshiftI, StoreAI, Sub, SubI}
pub use Rattle.iloc_ops.specs.declared.op.Reg.{Reg}
pub use Rattle.iloc_meaning.proofs.Cases.{by_bool}
pub use Rattle.iloc_meaning.specs.Effect.{effect}
pub use Rattle.iloc_meaning.specs.Outcome.{emitted, emitted_by, has_fault, is_fault, outcome}
pub use Rattle.iloc_meaning.specs.Trace.{is_register, is_write_to, op_at, result_of, writes_to, written_or}
pub use Rattle.iloc_timed.proofs.Arrivals.{one_known, table_numbered, zero_known}
pub use Rattle.iloc_timed.specs.Kinds.{is_output, is_store, kind}
pub use Rattle.iloc_timed.specs.Latency.{latency, latency_of}
pub use Rattle.iloc_timed.specs.Rows.{AreNumbered, IsTable, empty_row, holds, is_some_kind, issue_cycle, keeps_units, kind_in, row_at, slots, times_issued}
pub use Rattle.iloc_timed.specs.Schedule.{Table}
pub use Rattle.iloc_timed.specs.Timed.{Issued, executed_in, last_due, later, register_in, timed_outcome, timed_outcome_of, word_in}
pub use Rattle.iloc_timed.specs.declared.kind.Kind.{Kind}
pub use Rattle.iloc_timed.specs.declared.latencies.Latencies.{Latencies}
pub use Rattle.iloc_timed.specs.declared.row.Row.{Row}
pub use Rattle.iloc_rules.proofs.Basics.Kinds.{output_is, store_is}
pub use Rattle.iloc_rules.proofs.Basics.Maxima.{fold_max_each, fold_max_reached}
pub use Rattle.iloc_rules.proofs.Basics.Members.{any_at, contains_from, empty_from, from_any, from_append, from_filter, from_map, from_range, in_filter, in_from, in_left, in_map, in_range_from, in_right, map_same}
pub use Rattle.iloc_rules.proofs.Basics.Ordered.{Ordered, ordered_append, ordered_filter}
pub use Rattle.iloc_rules.proofs.Basics.Registers.{is_register_from, is_register_same}
pub use Rattle.iloc_rules.proofs.Basics.Slots.{ComesLater, count_by-cons, count_in, count_in_twice, count_in_within, cycle_is, early_issued, is_issued, issued_in_order, issued_there, issued_within, numbers_before, stands_there, times_issued-cons, within}
pub use Rattle.iloc_rules.proofs.Renamed.MentionedSources.{definition_numbered, length-renamed_by, renamed_op_at, source_earlier, use_numbered}
pub use Rattle.iloc_rules.proofs.Renamed.RenamedBlocks.{defined_at, named_defined, renamed_is_renamed}
pub use Rattle.iloc_rules.specs.Delays.{delays, memory_delays, reads_stored, uses_result, when}
pub use Rattle.iloc_rules.specs.Lawful.{IsLawful}
pub use Rattle.iloc_rules.specs.Renaming.{IsRenamed, Source, name_of, numbering, renamed, renamed_by, source, without_nops}
pub use Rattle.iloc_rules.specs.Renaming.Source.{Result, Start}
pub use Rattle.iloc_rules.specs.Steps.Members.{In}
pub use Rattle.iloc_facts.proofs.GivenSources.{push_more}
pub use Rattle.iloc_facts.proofs.Issues.{issued_from_numbers, log_is, numbers_from_issued}
pub use Rattle.iloc_facts.proofs.ReadValues.{only_one, read_in, register_is_read, value_of}
pub use Rattle.iloc_facts.proofs.SourceLists.{few_used, lists_same, sources_from_lists}
pub use Rattle.iloc_facts.specs.Labels.{label}
pub use Rattle.iloc_facts.specs.Readings.{defining, due, given, issued_before, last_of, read, reading_at, result_in, sources_at, sources_of}
pub use Rattle.iloc_facts.specs.UnderWay.{IsUnderWay}
pub use Rattle.iloc_facts.specs.declared.by_label.ByLabel.{ByLabel}
pub use Rattle.iloc_facts.specs.declared.reading.Reading.{Reading}
pub use Rattle.iloc_facts.specs.declared.reading.sources.Sources.{Sources}
pub use Rattle.iloc_facts.specs.declared.sides.Sides.{Sides}
pub use Rattle.iloc_validation.specs.ByTheBook.{ArePaired, IsByTheBook, IsScheduleUnder, IssueTheSame, issued_in}
pub use Rattle.iloc_validation.specs.Decision.{IsScheduleBy}
pub use Rattle.iloc_validation.specs.OwnRows.{AreOwnRows, renumber}
pub use Rattle.iloc_validation.specs.Steps.Colours.{AreBackwards, AreColoured, AreForwards, AreKept, AreKeptByNone, ArePassed, ArePassedTo, AreReadAt, HaveColours, IsBelow, IsNoPair, IsOrderOf, IsPairColoured, ReadAlike, heard, heard_of, marked, mixed, said, told, with_told}
pub use Rattle.iloc_validation.specs.Steps.Decisions.{AreKeptColours, IsDecisionAmong, IsDecisionOf, KeptColours}
pub use Rattle.iloc_validation.specs.Steps.FirstColours.{ArePlaces, colour_in, count_of, counted, first_colour, first_here, first_there, label_colour, numbers_below, with_op, with_place, with_slot}
pub use Rattle.iloc_validation.specs.Steps.Numbers.{AreNotedBefore, AreNumbersIn, in_slot, is_in, number_in, with_number}
pub use Rattle.iloc_validation.specs.Steps.Pairing.{IsKept, IsUnder}
pub use Rattle.iloc_validation.specs.Steps.Sources.{by_numbers}
pub use Rattle.iloc_validation.specs.Steps.Stores.{IsStoredUntil}
pub use Rattle.iloc_validation.specs.Steps.Waits.{earliest, memory_by, noted, wait_of}
pub use Rattle.iloc_validation.specs.declared.colours.Coloured.{Coloured}
pub use Rattle.iloc_validation.specs.declared.pairing.Pairing.{Pairing}
