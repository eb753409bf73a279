-- The names that many proofs import, passed on from one place. Declares nothing.
pub use Rattle.std.proofs.Common.{◌≡◌, ℕ, zero, suc, ◌+◌, ◌-◌, ◌*◌, ◌/◌, ◌%◌, ◌^◌, ◌<◌, ◌≤◌, min, Bool, true, false, not, ◌&&◌, ◌||◌, List, [], ◌∷◌, ◌++◌, map, length, get_or, take, set, ℤ, pos, negsuc, ◌+ℤ◌, ◌-ℤ◌, ◌*ℤ◌, IfSome, if◌then◌else◌, IsTrue, nat_eq, nat_lt, nat_le, ◌==◌, slice_index_or, FitsSigned, Some, None, fold, All, Option, option_map, option_to_list, unwrap_or, sym, refl, ap, ◌∙◌, subst, inl, inr, arith, w32, rules, eq-eqb, ne_eqb}
pub use Rattle.std.proofs.lemmas.Bool.{and_parts, cases_eq, cases_lt, eqb-true, le-leb, leb-true, lt-ltb, ltb-true, or_cases, or_right}
pub use Rattle.std.proofs.lemmas.Bool.Decides.{Decides-int_eq, nat_tests}
pub use Rattle.std.proofs.lemmas.Int.{SFits-int_wrap, int_wrap-add_left, int_wrap-add_right, int_wrap-mul_left, int_wrap-mul_right, int_wrap_fits, ints, of_z-to_z, to_z-of_z}
pub use Rattle.std.proofs.lemmas.List.{get_or-map, get_or_default, get_or_past, length-map, map-append, map-set}
pub use Rattle.std.proofs.lemmas.List.Folds.{list_any-append, list_any_more}
pub use Rattle.std.proofs.lemmas.List.FromFn.{fill_by_all, get_or-map-range_with_len, length-map-range_with_len}
pub use Rattle.std.proofs.lemmas.Result.{on_ok_weaker}
pub use Rattle.std.specs.Int.{cast_signed, cast_unsigned, int_shl, int_shr}
pub use Rattle.std.specs.Ordering.{int_eq}
pub use Rattle.iloc_ops.specs.Registers.{defined}
pub use Rattle.iloc_ops.specs.declared.op.Op.{Op}
pub use Rattle.iloc_ops.specs.declared.op.Reg.{Reg}
pub use Rattle.iloc_meaning.proofs.Cases.{by_bool}
pub use Rattle.iloc_meaning.proofs.Effects.{effect_same, results_go}
pub use Rattle.iloc_meaning.specs.Address.{good_address, is_good}
pub use Rattle.iloc_meaning.specs.Arithmetic.{shift_of, shifted_left, wrapped}
pub use Rattle.iloc_meaning.specs.Effect.{at_address, effect}
pub use Rattle.iloc_meaning.specs.Memory.{WORDS, with_words, word_at}
pub use Rattle.iloc_meaning.specs.Outcome.{emitted, emitted_by, has_fault, is_fault}
pub use Rattle.iloc_meaning.specs.declared.effect.Effect.{Effect}
pub use Rattle.iloc_timed.proofs.Arrivals.{one_known, zero_known}
pub use Rattle.iloc_timed.proofs.WholeRuns.{if_ok, no_fault, row_issued, row_more, slot_issued}
pub use Rattle.iloc_timed.specs.Latency.{IsLatency, latency}
pub use Rattle.iloc_timed.specs.Rows.{row_at, slots}
pub use Rattle.iloc_timed.specs.Schedule.{Table}
pub use Rattle.iloc_timed.specs.Steps.Machine.{AllLand, landed, then_issued}
pub use Rattle.iloc_timed.specs.Steps.Pending.{landed_in_register, landed_in_word, sent_by}
pub use Rattle.iloc_timed.specs.Steps.Wheel.{AreUnderWay, due_at}
pub use Rattle.iloc_timed.specs.Timed.{Issued, executed_in, issue_all, issued_before, register_in, timed_outcome_of, word_in}
pub use Rattle.iloc_timed.specs.declared.latencies.Latencies.{Latencies}
pub use Rattle.iloc_timed.specs.declared.row.Row.{Row}
pub use Rattle.iloc_terms.specs.Steps.Terms.{Adds, ArePartsOf, HasNoOther, IsLocationOf, IsMeaning, IsMultiple, IsNode, IsSumOfBases, Meaning, Means, base_word, computed, high_bits, key_of, node_at, word_or_zero}
pub use Rattle.iloc_terms.specs.declared.table.node.Node.{Node}
