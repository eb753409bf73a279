-- The names that many proofs import, passed on from one place. Declares nothing.
pub use Rattle.std.proofs.Common.{◌≡◌, ℕ, zero, suc, ◌+◌, ◌-◌, ◌*◌, ◌<◌, ◌≤◌, Bool, true, false, cond, not, ◌&&◌, ◌≢◌, ◌⊎◌, List, [], ◌∷◌, ◌++◌, map, length, get_or, take, set, replicate, IsTrue, nat_lt, slice_index, slice_index_or, slice_set, count_by, MatchOption, sym, refl, ap, ◌∙◌, subst, ap₂, subst₂, inl, inr, arith, length-set, take_all, get_or-set_other, get_or-set_same}
pub use Rattle.std.proofs.lemmas.Bool.{and_from, and_parts, cases_lt}
pub use Rattle.std.proofs.lemmas.Grind.{common_steps}
pub use Rattle.std.proofs.lemmas.List.{get_or-map, get_or_default, get_or_read, length-map, length-replicate, take_more}
pub use Rattle.std.proofs.lemmas.List.Elements.{All-get_or, All-weaker}
pub use Rattle.std.specs.List.{range_with_len}
pub use Rattle.iloc_ops.specs.declared.op.Op.{Op}
pub use Rattle.iloc_timed.specs.Cycles.{cycles}
pub use Rattle.iloc_timed.specs.Kinds.{kind}
pub use Rattle.iloc_timed.specs.declared.kind.Kind.{Kind}
pub use Rattle.iloc_timed.specs.declared.latencies.Latencies.{Latencies}
pub use Rattle.iloc_timed.specs.declared.row.Row.{Row}
pub use Rattle.iloc_rules.proofs.Basics.CountedRanges.{count_most, count_range}
pub use Rattle.iloc_rules.proofs.Basics.Members.{from_append, from_map, from_range}
pub use Rattle.iloc_rules.proofs.Basics.Slots.{count_by-cons}
pub use Rattle.iloc_rules.specs.Heuristics.Listed.{heuristics}
pub use Rattle.iloc_rules.specs.Renaming.{renamed}
pub use Rattle.iloc_rules.specs.Rule.{counts_by}
pub use Rattle.iloc_rules.specs.Heuristics.{priorities_under}
pub use Rattle.iloc_rules.specs.declared.heuristic.Heuristic.TheVariants.{Chain}
pub use Rattle.iloc_rules.specs.declared.memory_rule.MemoryRule.{MemoryRule}
pub use Rattle.iloc_sched.specs.declared.edges.Edge.{Edge}
pub use Rattle.iloc_bound.proofs.Counting.{at_least, count-mono, is_at_least}
pub use Rattle.iloc_bound.proofs.LeastBound.{ruled_least_bound, tail_within_under}
pub use Rattle.iloc_bound.proofs.TailBound.{crowd_of, in_between}
pub use Rattle.iloc_bound.proofs.TailParts.{length-tails_under}
pub use Rattle.iloc_bound.specs.Bound.{least_of_under, least_under, tails_under}
pub use Rattle.iloc_bound.specs.Shares.{shares, width}
pub use Rattle.iloc_bound.specs.declared.share.Share.{Share}
pub use Rattle.iloc_optimum.specs.Bound.{IsBound}
pub use Rattle.iloc_optimum.specs.Laws.{AreDelayPairs, AreLeft, LawfulSchedulesAreTimings, NothingLeftRaisesTheBound, ReachedBoundsAreOptimal}
pub use Rattle.iloc_optimum.specs.Optimum.{IsAsShortAs, IsCountOf, IsOptimumOf, cycles_of}
pub use Rattle.iloc_optimum.specs.Steps.Covered.{EachSized, InOne, IsCovered}
pub use Rattle.iloc_optimum.specs.Steps.Inside.{IsKept, count_inside, is_inside}
pub use Rattle.iloc_optimum.specs.Timing.{AreSized, Crowd, FitsShares, HasNone, IsTiming, LeadsBetween, WaitsFor, Within, belongs, between}
pub use Rattle.iloc_optimum.specs.declared.windows.Windows.{Windows}
