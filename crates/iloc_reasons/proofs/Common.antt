-- The names that many proofs import, passed on from one place. Declares nothing.
pub use Rattle.std.proofs.Common.{◌≡◌, ℕ, zero, suc, ◌+◌, ◌%◌, ◌^◌, ◌<◌, ◌≤◌, ◌≢◌, List, [], ◌∷◌, ◌++◌, map, length, get_or, take, IfSome, IfNone, slice_get, slice_index, slice_set, Some, None, All, Contains, Option, ◌⊎◌, ◌↔◌, inl, inr, subst, true, false, sym, refl, ap, ◌∙◌, ap₂, true≢false, arith, rules}
pub use Rattle.std.proofs.lemmas.List.{get_or_default}
pub use Rattle.iloc_ops.specs.Registers.{defined, used}
pub use Rattle.iloc_ops.specs.declared.op.Op.{Op}
pub use Rattle.iloc_ops.specs.declared.op.Op.TheVariants.{Nop}
pub use Rattle.iloc_ops.specs.declared.op.Reg.{Reg}
pub use Rattle.iloc_meaning.specs.Trace.{op_at}
pub use Rattle.iloc_timed.specs.Rows.{IsTable, issue_cycle}
pub use Rattle.iloc_timed.specs.declared.latencies.Latencies.{Latencies}
pub use Rattle.iloc_timed.specs.declared.row.Row.{Row}
pub use Rattle.iloc_facts.specs.Counts.{are_alike, count_like}
pub use Rattle.iloc_facts.specs.Facts.{AreAlike, AreAllSources, AreSources, AreUnlike, HasBeenThere, HasLabel, IsCounterpart, IsFact, IsIssued}
pub use Rattle.iloc_facts.specs.Labels.{label}
pub use Rattle.iloc_facts.specs.Readings.{due, given, read, reading_at, reading_of, result_in, sources_at, sources_of}
pub use Rattle.iloc_facts.specs.declared.reading.Reading.{Reading}
pub use Rattle.iloc_reasons.specs.Steps.Sides.{AreAllRead, IsNoted, source_at}
pub use Rattle.iloc_reasons.specs.Steps.Terms.{AreTerms, behind, label_number, mixed, opcode_number, value_of, values_of}
