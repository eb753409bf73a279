-- The names that many proofs import, passed on from one place. Declares nothing.
pub use Rattle.std.proofs.Common.{◌≡◌, ℕ, zero, suc, ◌+◌, ◌*◌, ◌^◌, ◌<◌, ◌≤◌, Bool, true, false, ◌&&◌, ◌⊎◌, List, [], ◌∷◌, length, get_or, take, ℤ, ◌==◌, slice_get, slice_index, Some, None, count_by, Option, option_to_list, sym, refl, ap, ◌∙◌, subst, ap₂, inl, inr, true≢false, arith, length-append, eqb-true, le-leb, leb-true}
pub use Rattle.std.proofs.Math.Seq.{take-length}
pub use Rattle.std.proofs.lemmas.Bool.{and_from, and_parts, cases_lt}
pub use Rattle.std.proofs.lemmas.List.FromFn.{get_or-range_with_len, length-range_with_len}
pub use Rattle.std.specs.List.{range_with_len}
pub use Rattle.iloc_ops.specs.declared.op.Op.{Op}
pub use Rattle.iloc_meaning.proofs.Cases.{by_bool}
pub use Rattle.iloc_meaning.specs.Outcome.{emitted, emitted_by, outcome, shown}
pub use Rattle.iloc_meaning.specs.Trace.{Executed, before, op_at}
pub use Rattle.iloc_meaning.specs.declared.outcome.Outcome.{Outcome}
pub use Rattle.iloc_timed.specs.Rows.{IsTable, slots}
pub use Rattle.iloc_timed.specs.Schedule.{AreInRange, AreOnce, IsFirstBadRow, Table}
pub use Rattle.iloc_timed.specs.declared.latencies.Latencies.{Latencies}
pub use Rattle.iloc_timed.specs.declared.row.Row.{Row}
pub use Rattle.iloc_rules.specs.Renaming.{without_nops}
pub use Rattle.iloc_facts.proofs.AlikeOps.{alike_itself, count_same}
pub use Rattle.iloc_facts.proofs.CountsLike.{counted, no_more, one_counted, one_more}
pub use Rattle.iloc_facts.specs.Counts.{AreItsOperations}
pub use Rattle.iloc_validation.specs.ByTheBook.{IsByTheBook, IssueTheSame}
pub use Rattle.iloc_comparison.specs.Comparison.{AgreesOnAll, IsComparison}
pub use Rattle.iloc_comparison.specs.declared.comparison.Comparison.{Comparison}
pub use Rattle.iloc_verdict.specs.Checked.{compared_kind, is_passing, kind_of, passes}
pub use Rattle.iloc_verdict.specs.Entry.{entry_as}
pub use Rattle.iloc_verdict.specs.Kept.{keeps_operations}
pub use Rattle.iloc_verdict.specs.declared.checked.Checked.{Checked}
pub use Rattle.iloc_verdict.specs.declared.verdict.Verdict.{Verdict}
pub use Rattle.iloc_judge.specs.Verdict.{IsVerdict}
