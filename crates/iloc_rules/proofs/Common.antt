-- The names that many proofs import, passed on from one place. Declares nothing.
pub use Rattle.std.proofs.Common.{◌≡◌, ℕ, zero, suc, ◌+◌, ◌-◌, ◌*◌, ◌<◌, ◌≤◌, min, max, Bool, true, false, cond, not, ◌&&◌, ◌||◌, ◌≢◌, ◌⊎◌, ◌↔◌, List, [], ◌∷◌, ◌++◌, map, length, get_or, take, drop, ℤ, pos, negsuc, ◌+ℤ◌, ◌-ℤ◌, ◌*ℤ◌, IsTrue, nat_lt, nat_le, ◌==◌, slice_index, slice_index_or, Some, None, fold, Contains, sum_by, count_by, filter, Option, option_map, option_to_list, AllPairs, find, int_eq, sym, refl, ap, ◌∙◌, subst, ap₂, inl, inr, true≢false, append_assoc, append-nil, add-one, arith, ext_get_or, w32, ltb-false, ltb-true, le-ltb, lt-ltb, eq-eqb, ne_eqb, eqb-true, le-leb, leb-false, leb-true}
pub use Rattle.std.proofs.lemmas.Bool.{and_cases, and_from, and_parts, cases_eq, cases_lt, cases_order, cond_both, eqb-false, false≢true, lt-leb, not-true, or_cases, or_right}
pub use Rattle.std.proofs.lemmas.List.{get_or_append_left, get_or_default, get_or_past, get_or_push, length-map, length_push, map-append}
pub use Rattle.std.proofs.lemmas.List.FromFn.{fill_by_all, get_or-map-range_with_len, length-map-range_with_len, length-range_with_len}
pub use Rattle.std.proofs.lemmas.List.Sums.{count_by-le-length, sum_by-cons, sum_by-le-sum_by}
pub use Rattle.std.proofs.lemmas.Option.{none-some, same_Some}
pub use Rattle.std.specs.List.{list_all, list_any, range_with_len}
pub use Rattle.iloc_ops.specs.Registers.{defined, used, with_registers}
pub use Rattle.iloc_ops.specs.declared.op.Op.{Op}
pub use Rattle.iloc_ops.specs.declared.op.Op.TheVariants.{Add, AddI, Load, LoadAI, LoadI, Lshift, LshiftI, Mult, MultI, Nop, Output, Rshift, RshiftI, Store, StoreAI, Sub, SubI}
pub use Rattle.iloc_ops.specs.declared.op.Reg.{Reg}
pub use Rattle.iloc_meaning.proofs.Cases.{by_bool}
pub use Rattle.iloc_meaning.proofs.Effects.{at_address_cases, effect-with_registers, effect_same}
pub use Rattle.iloc_meaning.specs.Arithmetic.{constant, shifted_left, shifted_right, wrapped}
pub use Rattle.iloc_meaning.specs.Effect.{at_address, effect}
pub use Rattle.iloc_meaning.specs.Outcome.{emitted, emitted_by, has_fault, outcome, outcome_of}
pub use Rattle.iloc_meaning.specs.Trace.{Executed, before, defines, is_register, is_write_to, op_at, register_after, result_of, result_or_zero, then_executed, word_after, writes_to, written_or}
pub use Rattle.iloc_timed.proofs.Greatest.{le_fold_max}
pub use Rattle.iloc_timed.proofs.WholeRuns.{short_latency, some_latency}
pub use Rattle.iloc_timed.specs.Kinds.{is_load, is_memory, is_mult, is_output, is_store, kind}
pub use Rattle.iloc_timed.specs.Latency.{latency, latency_of}
pub use Rattle.iloc_timed.specs.Rows.{IsTable, empty_row, holds, is_some_kind, issue_cycle, keeps_units, row_at, slots, times_issued}
pub use Rattle.iloc_timed.specs.Timed.{Issued, arrived, executed_in, issue, issue_all, issued_before, last_due, last_that, later, register_in, timed_outcome, word_in}
pub use Rattle.iloc_timed.specs.declared.kind.Kind.{Kind}
pub use Rattle.iloc_timed.specs.declared.latencies.Latencies.{Latencies}
pub use Rattle.iloc_timed.specs.declared.row.Row.{Row}
pub use Rattle.iloc_rules.specs.Apart.{address_at, address_of, apart_if_both, are_apart, by_address, difference, folded, known_before, own, plus, result_word, sum, unless_apart}
pub use Rattle.iloc_rules.specs.Delays.{Counts, IsDelayPair, IsDelayPairWhere, all_count, delays, delays_where, keeps_order, keeps_order_where, memory_delays_where, reads_stored, uses_result, when}
pub use Rattle.iloc_rules.specs.Greedy.{IsGreedy, IsGreedyBy, IsGreedyWhere, better, chosen, chosen_with, first_of_all, is_ready_where, may_stand_beside, on_units, ready, ready_where}
pub use Rattle.iloc_rules.specs.Pairs.{ComesBefore, pairs, pairs_before, pairs_from, rising, with_delay, with_delays}
pub use Rattle.iloc_rules.specs.Priority.{after_first, priorities, priorities_where, priority, priority_under, priority_where, reaches, reaches_where}
pub use Rattle.iloc_rules.specs.Renaming.{IsRenamed, Source, is_nop, is_source, mentions, mentions_before, name_of, numbering, own_source, place_of, renamed, renamed_by, renamed_op, source, struck, without_nops}
pub use Rattle.iloc_rules.specs.Rule.{counts_by}
pub use Rattle.iloc_rules.specs.Heuristics.{priorities_under}
pub use Rattle.iloc_rules.specs.Sound.{IsSound, IsSoundOn, touched, touched_at}
pub use Rattle.iloc_rules.specs.Starts.{arrivals_where, start, start_where, starts, starts_before_where, starts_where}
pub use Rattle.iloc_rules.specs.Steps.Chains.{IsChain, IsChainIntoWhere, IsChainOut}
pub use Rattle.iloc_rules.specs.Steps.Choosing.{GoesBefore, IsChosenSoFar, IsChosenWhere}
pub use Rattle.iloc_rules.specs.Steps.Members.{In}
pub use Rattle.iloc_rules.specs.Steps.Stands.{Stands}
pub use Rattle.iloc_rules.specs.declared.memory_rule.MemoryRule.{MemoryRule}
pub use Rattle.iloc_rules.specs.declared.memory_rule.MemoryRule.TheVariants.{Address, Book}
