-- The names that many proofs import, passed on from one place. Declares nothing.
pub use Rattle.std.proofs.Common.{BTreeMap, ◌≡◌, ℕ, zero, suc, ◌+◌, ◌-◌, ◌<◌, ◌≤◌, Bool, true, false, cond, not, ◌&&◌, ◌||◌, ◌≢◌, ◌⊎◌, List, [], ◌∷◌, ◌++◌, map, length, get_or, set, ℤ, pos, if◌then◌else◌, OnOk, nat_lt, ◌==◌, slice_get, FitsSigned, Some, None, Ok, Err, Contains, sum_by, count_by, Option, Result, option_map, option_to_list, nat_cmp, int_cmp, int_eq, is_eq, Ordering, Less, Equal, Greater, unwrap_or, sym, refl, ap, ◌∙◌, subst, inl, inr, true≢false, append_assoc, append-nil, add-one, arith, length-append, length-set, get_or-set_other, get_or-set_same, ext_get_or, w32, rules, ltb-true, lt-ltb, eqb-true}
pub use Rattle.std.proofs.lemmas.Bool.{and_from, and_parts, cases_eq, cases_lt, eqb-false, false≢true, or_cases}
pub use Rattle.std.proofs.lemmas.Bool.Decides.{Decides-int_eq}
pub use Rattle.std.proofs.lemmas.Int.{to_z-of_z}
pub use Rattle.std.proofs.lemmas.List.{get_or_default, get_or_read}
pub use Rattle.std.proofs.lemmas.List.Sums.{count_by-le-length, sum_by-append, sum_by-cons, sum_by_push}
pub use Rattle.std.proofs.lemmas.Result.{on_ok_weaker}
pub use Rattle.std.specs.BTreeMap.{IsOrdered, get, insert_entry, is_at, values}
pub use Rattle.std.specs.List.{list_any, range_with_len}
pub use Rattle.std.specs.Option.{option_map_or, option_or}
pub use Rattle.iloc_ops.specs.Registers.{defined, used}
pub use Rattle.iloc_ops.specs.declared.op.Op.{Op}
pub use Rattle.iloc_ops.specs.declared.op.Op.TheVariants.{Load, LoadAI, Nop, Output, Store, StoreAI}
pub use Rattle.iloc_ops.specs.declared.op.Reg.{Reg}
pub use Rattle.iloc_meaning.proofs.Cases.{by_bool}
pub use Rattle.iloc_meaning.specs.Trace.{is_register, op_at}
pub use Rattle.iloc_timed.specs.Kinds.{is_load, is_output, is_store, kind}
pub use Rattle.iloc_timed.specs.Latency.{latency}
pub use Rattle.iloc_timed.specs.declared.kind.Kind.{Kind}
pub use Rattle.iloc_timed.specs.declared.latencies.Latencies.{Latencies}
pub use Rattle.iloc_rules.proofs.Basics.Members.{contains_from, from_append, in_from, in_left, in_right}
pub use Rattle.iloc_rules.specs.Apart.{address_at, address_of, apart_if_both, are_apart, by_address, known_before, result_word}
pub use Rattle.iloc_rules.specs.Delays.{Counts, IsDelayPairWhere, delays_where, keeps_order_where, memory_delays_where, reads_stored, uses_result, when}
pub use Rattle.iloc_rules.specs.Steps.Members.{In}
pub use Rattle.iloc_rules.specs.declared.word.Word.{Word}
pub use Rattle.iloc_rules.specs.declared.word.Word.TheVariants.{Based, Known}
pub use Rattle.iloc_addresses.specs.Near.{IsNear, NoneBetween, takes_over}
pub use Rattle.iloc_addresses.specs.Steps.ByConstant.{Moves, count_in, ops_at}
pub use Rattle.iloc_addresses.specs.Steps.Dependences.{AreFar, ArePlaced, Finds, IsBefore, IsLast, IsShort, IsStoreAt, IsWaiting, at_constant, constant_of, have_one_base, store_for, waiting_by}
pub use Rattle.iloc_addresses.specs.Steps.LastByConstant.{last_at}
pub use Rattle.iloc_addresses.specs.Steps.Registers.{AreBefore, ChangesOnly, word_at, word_in}
pub use Rattle.iloc_addresses.specs.Steps.Successors.{AreCounted, AreCounts, AreDefiners, AreNested, AreNoted, AreReached, AreUsesCounted, base_cmp, base_of, count_from, definer, is_by_memory, is_by_use, is_number, near, noted, one_address, uses_before, waiting_for, waits_by_memory, with_base, with_both, word_cmp}
pub use Rattle.iloc_addresses.specs.declared.dependences.accesses.Accesses.{Accesses}
