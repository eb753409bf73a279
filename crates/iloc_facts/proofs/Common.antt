-- The names that many proofs import, passed on from one place. Declares nothing.
pub use Rattle.std.proofs.Common.{◌≡◌, ℕ, zero, suc, ◌+◌, ◌%◌, ◌<◌, ◌≤◌, Bool, true, false, cond, ◌⊎◌, ◌↔◌, List, [], ◌∷◌, ◌++◌, map, length, get_or, take, set, ℤ, is_none, IfSome, IfNone, IsTrue, nat_lt, nat_le, slice_set, Some, None, fold, count_by, filter, Option, option_map, option_to_list, sym, refl, ap, ◌∙◌, subst, inl, inr, true≢false, append_assoc, append-nil, add-one, arith, length-set, get_or-set_other, get_or-set_same, rules, eq-eqb, eqb-true, le-leb}
pub use Rattle.std.proofs.lemmas.Bool.{cases_eq, cases_lt, lt-leb}
pub use Rattle.std.proofs.lemmas.List.{get_or-map, get_or_append_left, get_or_default, get_or_push, length-map, length_push, map-append, map-set}
pub use Rattle.std.proofs.lemmas.List.Sums.{count_by_more_no, count_by_more_yes, fold-append, sum_by-cons, sum_by_more_le}
pub use Rattle.std.specs.BTreeMap.{get}
pub use Rattle.std.specs.Bool.{Decides, one_answer}
pub use Rattle.iloc_ops.specs.Registers.{defined, used}
pub use Rattle.iloc_ops.specs.declared.op.Op.{Op}
pub use Rattle.iloc_ops.specs.declared.op.Op.TheVariants.{Add, AddI, Load, LoadAI, LoadI, Lshift, LshiftI, Mult, MultI, Nop, Output, Rshift, RshiftI, Store, StoreAI, Sub, SubI}
pub use Rattle.iloc_ops.specs.declared.op.Reg.{Reg}
pub use Rattle.iloc_meaning.proofs.Cases.{by_bool}
pub use Rattle.iloc_meaning.specs.Trace.{Executed, defines, is_register, op_at, result_of, result_or_zero}
pub use Rattle.iloc_timed.specs.Rows.{IsTable, issue_cycle, row_at, slots}
pub use Rattle.iloc_timed.specs.Timed.{Issued, issue, last_due, later, register_in}
pub use Rattle.iloc_timed.specs.declared.latencies.Latencies.{Latencies}
pub use Rattle.iloc_timed.specs.declared.row.Row.{Row}
pub use Rattle.iloc_rules.proofs.Basics.Members.{from_append, from_filter, in_left, in_right, map_same}
pub use Rattle.iloc_rules.proofs.Basics.Slots.{cycle_is, issued_within, numbers_before, stands_there}
pub use Rattle.iloc_rules.specs.Steps.Members.{In}
pub use Rattle.iloc_facts.specs.ByLabel.{NumbersLabels, SetsLike, number_like}
pub use Rattle.iloc_facts.specs.Counts.{AreLacking, IsShort, are_alike, count_like, lacking, lacks_counterpart}
pub use Rattle.iloc_facts.specs.Labels.{constant, label, label_key}
pub use Rattle.iloc_facts.specs.Readings.{arrived, defining, due, given, in_order, issued_before, last_of, read, reading_at, reading_of, sources_at, sources_of}
pub use Rattle.iloc_facts.specs.Steps.Counterparts.{AreChained, AreCounterparts, IsCounterpart, IsLackingIn, IsNth, noted_at}
pub use Rattle.iloc_facts.specs.Steps.Readings.{AreNoted, with_noted}
pub use Rattle.iloc_facts.specs.Steps.Tracks.{Tracks}
pub use Rattle.iloc_facts.specs.Steps.Tracks.Arrivals.{landed_at, mark, marked, marked_by, sent_as, with_slot}
pub use Rattle.iloc_facts.specs.Steps.Tracks.Holders.{ChangesOnly, holder}
pub use Rattle.iloc_facts.specs.declared.by_label.ByLabel.{ByLabel}
pub use Rattle.iloc_facts.specs.declared.counterparts.lacking.Lacking.{Lacking}
pub use Rattle.iloc_facts.specs.declared.reading.holders.Holders.{Holders}
pub use Rattle.iloc_facts.specs.declared.reading.run.Run.{Run}
