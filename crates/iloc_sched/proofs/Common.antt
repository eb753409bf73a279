-- The names that many proofs import, passed on from one place. Declares nothing.
pub use Rattle.std.proofs.Common.{◌≡◌, ℕ, zero, suc, ◌+◌, ◌-◌, ◌*◌, ◌/◌, ◌%◌, ◌^◌, ◌<◌, ◌≤◌, min, max, Bool, true, false, cond, not, ◌&&◌, ◌||◌, eqb, ltb, leb, ◌≢◌, ◌⊎◌, List, [], ◌∷◌, ◌++◌, map, length, get_or, take, drop, set, replicate, is_some, is_none, IfSome, if◌then◌else◌, IsTrue, nat_eq, nat_lt, ◌==◌, slice_get, slice_index, slice_set, bit_and, bit_or, count_ones, Some, None, vec_len, vec_capacity, All, Contains, sum_by, count_by, filter, Option, option_map, IsPermutation, IsSorted, option_to_list, Any, filter_map, nat_cmp, unwrap_or, sym, refl, ap, ◌∙◌, subst, ap₂, inl, inr, true≢false, append_assoc, append-nil, add-one, arith, length-append, length-drop, length-set, length-take, get_or-drop, take_all, get_or-set_other, get_or-take, get_or-set_same, ext_get_or, pow_pos, w32, w64, rules, ltb-true, lt-ltb, eq-eqb, ne_eqb, eqb-true}
pub use Rattle.std.proofs.lemmas.Bool.{and_from, and_parts, cases_eq, cases_lt, eqb-false, false_from_ne_true, false≢true, lt-leb, not-true, or_cases}
pub use Rattle.std.proofs.lemmas.Grind.{div_ceil_times, get_or-set_at}
pub use Rattle.std.proofs.lemmas.List.{get_or-map, get_or-replicate, get_or_append_left, get_or_default, get_or_past, get_or_push, get_or_read, length-map, length-replicate, length_push, map-append, map-set, replicate_more, set-get_or, take_more, with_items_is}
pub use Rattle.std.proofs.lemmas.List.Elements.{All-from_get_or, Contains-get_or, filter-append, filter_more}
pub use Rattle.std.proofs.lemmas.List.FromFn.{get_or-map-range_with_len, length-map-range_with_len, length-range_with_len, map-range_with_len_more}
pub use Rattle.std.proofs.lemmas.List.Sums.{count_by-le-length, length-filter, sum_by-le, sum_by-set}
pub use Rattle.std.proofs.lemmas.Nat.{and_le_l, le_or_r, one_shl, ones-le}
pub use Rattle.std.proofs.lemmas.Nat.Bits.{bit_at-lt, bit_at-pow_other, bit_at-trailing_zeros, bit_at-zero, bit_at_above, bit_at_and, bit_at_clear_other, bit_at_clear_same, bit_at_not, bit_at_or, bit_at_set_other, bit_at_set_same, same_from_bits}
pub use Rattle.std.proofs.lemmas.Result.{IfOk-weaker, on_ok_weaker}
pub use Rattle.std.specs.Global.{Vec}
pub use Rattle.std.specs.Int.{bit_at, bit_not, from_bool, trailing_zeros}
pub use Rattle.std.specs.List.{IsDistinct, list_any, range_with_len}
pub use Rattle.std.specs.Vec.{with_items}
pub use Rattle.iloc_ops.specs.Registers.{defined, defined_in, renumbered, used, used_in, with_registers}
pub use Rattle.iloc_ops.specs.declared.op.Op.{Op}
pub use Rattle.iloc_ops.specs.declared.op.Op.TheVariants.{Nop}
pub use Rattle.iloc_ops.specs.declared.op.Reg.{Reg}
pub use Rattle.iloc_meaning.proofs.Cases.{by_bool}
pub use Rattle.iloc_meaning.specs.Trace.{is_register, op_at}
pub use Rattle.iloc_timed.specs.Kinds.{is_load, is_memory, is_output, is_store, kind}
pub use Rattle.iloc_timed.specs.Latency.{latency, latency_of}
pub use Rattle.iloc_timed.specs.Rows.{empty_row, holds, is_some_kind, issue_cycle, kind_in, row_at, slots}
pub use Rattle.iloc_timed.specs.declared.kind.Kind.{Kind}
pub use Rattle.iloc_timed.specs.declared.latencies.Latencies.{Latencies}
pub use Rattle.iloc_timed.specs.declared.row.Row.{Row}
pub use Rattle.iloc_rules.proofs.Basics.Members.{any_at, contains_from, from_any, from_append, from_filter, from_range, in_at, in_filter, in_from, in_left, in_map, in_range_from, in_right, map_same}
pub use Rattle.iloc_rules.proofs.DelayPairs.DelayBounds.{delay_at_least_where, kind_delays, short_delay_where}
pub use Rattle.iloc_rules.proofs.PriorityValues.LongestWhere.{is_priority, length_where, priorities_all, priority_least_where, priority_most_where}
pub use Rattle.iloc_rules.proofs.PriorityValues.Named.{length-priorities_by_where, priorities_by_all, ruled_priorities}
pub use Rattle.iloc_rules.proofs.PriorityValues.Starts.{is_start_where, length-starts_where, start_least_where, start_most_where}
pub use Rattle.iloc_rules.proofs.Renamed.RenamedBlocks.{renamed_is_renamed, renaming_keeps_the_outcome}
pub use Rattle.iloc_rules.specs.Apart.{address_at, by_address}
pub use Rattle.iloc_rules.specs.Delays.{Counts, IsDelayPair, IsDelayPairWhere, all_count, delays, delays_where, memory_delays, memory_delays_where, uses_result, when}
pub use Rattle.iloc_rules.specs.Greedy.{IsGreedyWhere, chosen, first_of_all, may_stand_beside, ready_where}
pub use Rattle.iloc_rules.specs.Heuristics.{depends_on_where, depends_where, descendants_where, priorities_by, priorities_by_where, priorities_under, successors, through_where, waits_for, waits_for_where}
pub use Rattle.iloc_rules.specs.Priority.{priorities, priorities_where, priority_where}
pub use Rattle.iloc_rules.specs.Renaming.{IsRenamed, Source, is_nop, is_source, mentions, mentions_before, name_of, numbering, own_source, renamed, renamed_by, renamed_op, source, struck, without_nops}
pub use Rattle.iloc_rules.specs.Rule.{counts_by}
pub use Rattle.iloc_rules.specs.Starts.{start_where, starts, starts_where}
pub use Rattle.iloc_rules.specs.Steps.Choosing.{GoesBefore, IsChosenWhere}
pub use Rattle.iloc_rules.specs.Steps.Members.{In}
pub use Rattle.iloc_rules.specs.Steps.Stands.{Stands}
pub use Rattle.iloc_rules.specs.declared.memory_rule.MemoryRule.{MemoryRule}
pub use Rattle.iloc_rules.specs.declared.memory_rule.MemoryRule.TheVariants.{Address, Book}
pub use Rattle.iloc_addresses.specs.Dependences.{AreSources}
pub use Rattle.iloc_sched.specs.Graph.GraphOf.{GraphOf}
pub use Rattle.iloc_sched.specs.Graph.Near.{IsNear, IsNearBy, IsNearPair, IsNearPairBy, NoneBetween, takes_over}
pub use Rattle.iloc_sched.specs.Steps.Chains.{ArePrioritiesFrom, AreRaised, AreStartsBefore, IsBefore, IsFrom, IsRaised}
pub use Rattle.iloc_sched.specs.Steps.Cycle.Calendar.{HasRoom, HasSameSets, IsFirst, IsWithin, KeepsRoom, Puts, Releases, has, offers}
pub use Rattle.iloc_sched.specs.Steps.Cycle.Classes.{class_of, excludes, place_of}
pub use Rattle.iloc_sched.specs.Steps.Cycle.Counting.{AreCounts, above, count_to, equal}
pub use Rattle.iloc_sched.specs.Steps.Cycle.Opening.{IsOpening, not_issued}
pub use Rattle.iloc_sched.specs.Steps.Cycle.Order.{AreKeys, AreRanks, AreSortedKeys, GoesFirst, key_of}
pub use Rattle.iloc_sched.specs.Steps.Cycle.Progress.{CanIssue, KeepsPlaces, MatchesRows, Progress, UpTo, Waits, Walks, count_from, edges_left}
pub use Rattle.iloc_sched.specs.Steps.Cycle.RankSets.{AddsBit, HoldsBits, IsFirstBit, IsFirstWithin, IsSearched, IsSummary, MovesAt, NotesMoved, TakesBit, open_bit, rank_bit, word_at}
pub use Rattle.iloc_sched.specs.Steps.Cycle.SoFar.{HasTaken, IsBest, IsCalendar, IsOpen, IsPlan, IsQueued, IsRanked, IsSoFar, IsUnderWay, Issues, IssuesAny, KeepsOut, class_at, counts_of, needs_zero_choice, number_of, rank_of, row_with, slot_count, took_of, waiting_count}
pub use Rattle.iloc_sched.specs.Steps.Edges.ByAddress.{CoversSources, delay_after}
pub use Rattle.iloc_sched.specs.Steps.Edges.Lasts.{IsLasts, IsNext, NoStoreBetween, NotesDefiner, NotesKind}
pub use Rattle.iloc_sched.specs.Steps.Edges.PartialGraph.{AddsFrom, CoversMemory, CoversUse, CoversUses, Grows, HasCapacity, HasEdge, HasOneMore, IsPartialGraph, KeepsFrame}
pub use Rattle.iloc_sched.specs.Steps.Edges.SoundGraph.{IsByTheBook, IsOfBlock, IsSound}
pub use Rattle.iloc_sched.specs.Steps.Graph.{Graph, IsGraph, IsGraphOf, IsGraphWhere, IsLast, LeadsTo}
pub use Rattle.iloc_sched.specs.Steps.Ranking.Dependents.{AreMarked, IsMarked, Reaches}
pub use Rattle.iloc_sched.specs.Steps.Renaming.ByRegister.{number_at}
pub use Rattle.iloc_sched.specs.Steps.Renaming.NamingWalk.{Follows, Named, NamesAll, NamesDefinition, NamesNext, NamesUse, NextNamed, UsesNamed, also, also_all, next_renamed, numbering_with}
pub use Rattle.iloc_sched.specs.Steps.Views.{IsEmptied, IsSized, bucket_of, earliest_list, edge_at, graph_of, issued_list, no_edge, progress_of, unmet_in, unmet_list}
pub use Rattle.iloc_sched.specs.declared.cycle.calendar.Calendar.{Calendar}
pub use Rattle.iloc_sched.specs.declared.cycle.class.Class.{Class}
pub use Rattle.iloc_sched.specs.declared.cycle.plan.Plan.{Plan}
pub use Rattle.iloc_sched.specs.declared.cycle.waiting.OperationState.{OperationState}
pub use Rattle.iloc_sched.specs.declared.cycle.waiting.Waiting.{Waiting}
pub use Rattle.iloc_sched.specs.declared.edges.Edge.{Edge}
pub use Rattle.iloc_sched.specs.declared.edges.Edges.{Edges}
pub use Rattle.iloc_sched.specs.declared.edges.lasts.Lasts.{Lasts}
pub use Rattle.iloc_sched.specs.declared.tables.Tables.{Tables}
