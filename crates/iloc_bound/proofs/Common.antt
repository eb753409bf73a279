-- The names that many proofs import, passed on from one place. Declares nothing.
pub use Rattle.std.proofs.Common.{◌≡◌, ℕ, zero, suc, ◌+◌, ◌-◌, ◌*◌, ◌/◌, ◌^◌, ◌<◌, ◌≤◌, min, max, Bool, true, false, cond, ◌&&◌, ◌||◌, List, [], ◌∷◌, ◌++◌, map, length, get_or, take, drop, set, IsTrue, nat_le, ◌==◌, slice_index, None, fold, All, count_by, filter, Option, IsPermutation, option_to_list, Any, sym, refl, ap, ◌∙◌, subst, ap₂, subst₂, inl, inr, append-nil, add-one, arith, length-drop, length-set, get_or-drop, ext_get_or}
pub use Rattle.std.proofs.lemmas.Bool.{and_cases, and_from, and_parts, cases_lt}
pub use Rattle.std.proofs.lemmas.Bool.Decides.{nat_tests}
pub use Rattle.std.proofs.lemmas.List.{drop_all, drop_more, get_or-map, get_or_default, get_or_read, length-map}
pub use Rattle.std.proofs.lemmas.List.Sorted.{Contains-permutation, IsNonDecreasingBy-from_sort, IsPermutation-sym, sum_by-IsPermutation}
pub use Rattle.std.proofs.lemmas.List.Sums.{count_by-le-length, length-filter, sum_by-append}
pub use Rattle.std.specs.List.{range_with_len}
pub use Rattle.iloc_ops.specs.declared.op.Op.{Op}
pub use Rattle.iloc_meaning.specs.Trace.{op_at}
pub use Rattle.iloc_timed.specs.Kinds.{is_load, is_memory, is_mult, is_output, is_store, kind}
pub use Rattle.iloc_timed.specs.Latency.{latency}
pub use Rattle.iloc_timed.specs.Rows.{IsTable, is_some_kind, issue_cycle, keeps_units, kind_in, slots}
pub use Rattle.iloc_timed.specs.declared.kind.Kind.{Kind}
pub use Rattle.iloc_timed.specs.declared.latencies.Latencies.{Latencies}
pub use Rattle.iloc_timed.specs.declared.row.Row.{Row}
pub use Rattle.iloc_rules.proofs.Basics.Members.{contains_from, from_any, from_filter, from_map, from_range, in_filter, in_from, in_left, in_map, in_right}
pub use Rattle.iloc_rules.proofs.Basics.Slots.{count_by-cons, count_some, early_issued, issued_early, numbers_before}
pub use Rattle.iloc_rules.specs.Least.{behind, count_from, cycles_from, load_tails, lowest, needed, of_kind, tail, tails}
pub use Rattle.iloc_rules.specs.Steps.Members.{In}
pub use Rattle.iloc_rules.specs.declared.memory_rule.MemoryRule.{MemoryRule}
pub use Rattle.iloc_rules.specs.declared.memory_rule.MemoryRule.TheVariants.{Address, Book}
pub use Rattle.iloc_sched.specs.declared.edges.Edge.{Edge}
pub use Rattle.iloc_bound.specs.Bound.{first_start, least_of_under, needed_after, needed_by, tails_under}
pub use Rattle.iloc_bound.specs.Shares.{Crowd, between, shares, width}
pub use Rattle.iloc_bound.specs.Steps.Tails.{IsTailed, chain_tail, loads_by, loads_from, tail_by}
