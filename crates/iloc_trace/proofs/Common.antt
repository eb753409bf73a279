-- The names that many proofs import, passed on from one place. Declares nothing.
pub use Rattle.std.proofs.Common.{◌≡◌, ℕ, zero, suc, ◌+◌, ◌-◌, ◌<◌, ◌≤◌, Bool, true, false, not, ◌&&◌, ◌||◌, List, [], ◌∷◌, ◌++◌, map, length, get_or, take, ℤ, pos, negsuc, IfSome, if◌then◌else◌, IsTrue, nat_lt, ◌==◌, Some, None, fold, Contains, filter, Option, option_map, option_to_list, sym, refl, ap, ◌∙◌, subst, ap₂, inl, inr, append_assoc, append-nil, add-zero, add-suc, add-one, arith, rules, eq-eqb, ne_eqb}
pub use Rattle.std.proofs.lemmas.Bool.{and_right, cases_lt, eqb-true, le-ltb, lt-leb, ltb-true, or_cases, or_parts, or_right}
pub use Rattle.std.proofs.lemmas.Bool.Decides.{nat_tests}
pub use Rattle.std.proofs.lemmas.List.{get_or_past, map-append}
pub use Rattle.std.proofs.lemmas.List.Concat.{flat_map-append}
pub use Rattle.std.proofs.lemmas.List.Elements.{All-append, All-cons, All-contains_itself, All-filter, All-head, All-map, All-nil, All-tail, All-weaker, filter-append, filter_more}
pub use Rattle.std.proofs.lemmas.List.Sums.{fold-append, fold_push}
pub use Rattle.std.specs.List.{All, flat_map, range_with_len}
pub use Rattle.iloc_ops.specs.Registers.{defined, used}
pub use Rattle.iloc_ops.specs.declared.op.Op.{Op}
pub use Rattle.iloc_ops.specs.declared.op.Op.TheVariants.{Output}
pub use Rattle.iloc_ops.specs.declared.op.Reg.{Reg}
pub use Rattle.iloc_meaning.proofs.Cases.{by_bool}
pub use Rattle.iloc_meaning.proofs.Effects.{effect_same, results_go}
pub use Rattle.iloc_meaning.specs.Address.{good_address, is_good}
pub use Rattle.iloc_meaning.specs.Arithmetic.{constant}
pub use Rattle.iloc_meaning.specs.Effect.{at_address, effect}
pub use Rattle.iloc_meaning.specs.Memory.{word_at}
pub use Rattle.iloc_meaning.specs.Outcome.{emitted, emitted_by, has_fault, is_fault}
pub use Rattle.iloc_meaning.specs.Registers.{value_of}
pub use Rattle.iloc_meaning.specs.Trace.{Executed, defines, is_register, is_write_to, op_at, result_of, result_or_zero, writes_to, written_by, written_or}
pub use Rattle.iloc_meaning.specs.declared.effect.Effect.{Effect}
pub use Rattle.iloc_meaning.specs.declared.effect.Effect.TheVariants.{Emits, Faults, Gives, Writes}
pub use Rattle.iloc_timed.proofs.Arrivals.{one_known, zero_known}
pub use Rattle.iloc_timed.proofs.Issues.{holds_one, holds_zero}
pub use Rattle.iloc_timed.proofs.WholeRuns.{fault_later, no_fault, row_more, short_latency, some_latency}
pub use Rattle.iloc_timed.specs.Kinds.{is_store, kind}
pub use Rattle.iloc_timed.specs.Latency.{latency}
pub use Rattle.iloc_timed.specs.Rows.{IsTable, empty_row, issue_cycle, row_at, slots}
pub use Rattle.iloc_timed.specs.Steps.Machine.{AllLand, Lands}
pub use Rattle.iloc_timed.specs.Steps.Pending.{landed_in_register, landed_in_word, sent_by}
pub use Rattle.iloc_timed.specs.Steps.Wheel.{due_at}
pub use Rattle.iloc_timed.specs.Timed.{Issued, arrived, executed_in, issue, issue_all, issued_before, last_due, last_that, register_in, word_in}
pub use Rattle.iloc_timed.specs.declared.kind.Kind.{Kind}
pub use Rattle.iloc_timed.specs.declared.latencies.Latencies.{Latencies}
pub use Rattle.iloc_timed.specs.declared.row.Row.{Row}
pub use Rattle.iloc_rules.proofs.Basics.Members.{contains_from, in_from}
pub use Rattle.iloc_rules.proofs.Basics.Registers.{is_register_same}
pub use Rattle.iloc_rules.proofs.Basics.Slots.{cycle_is, from_holds, within}
pub use Rattle.iloc_rules.proofs.DelayPairs.WaitedFor.{Waits, kept_in_order, read_then_store, stored_in_time, used_in_time}
pub use Rattle.iloc_rules.proofs.Renamed.RenamedBlocks.{renamed_is_renamed}
pub use Rattle.iloc_rules.specs.Renaming.{IsRenamed}
pub use Rattle.iloc_rules.specs.Steps.Members.{In}
pub use Rattle.iloc_trace.specs.Listing.{event_line, issue_line, trace_lines, write_line}
pub use Rattle.iloc_trace.specs.declared.event.Place.{Place}
pub use Rattle.iloc_trace.specs.declared.event.Place.TheVariants.{Register, Word}
