-- The choice of a cycle by ranks is the choice of the definition; for `Waiting::step`.
use Rattle.iloc_sched.proofs.Common.{◌≡◌, ℕ, ◌+◌, ◌<◌, ◌≤◌, Bool, true, false, not, ◌&&◌, ◌≢◌, List, length, ◌==◌, Some, None, filter, Option, sym, ap, ◌∙◌, subst, arith, and_from, and_parts, not-true, op_at, is_memory, kind, is_some_kind, kind_in, Kind, Row, from_filter, in_filter, chosen, first_of_all, may_stand_beside, ready_where, GoesBefore, IsChosenWhere, In, has, class_of, excludes, MatchesRows, IsBest, IsOpen, IsPlan, IsUnderWay, Issues, class_at, counts_of, needs_zero_choice, number_of, rank_of, row_with, graph_of, progress_of, Class, Plan, Waiting}
use Rattle.std.proofs.lemmas.Bool.Decides.{nat_tests}
use Rattle.iloc_sched.specs.declared.cycle.Choice.{Choice}
use Rattle.iloc_sched.specs.declared.cycle.class.Class.TheVariants as C
use Rattle.iloc_rules.proofs.Basics.Ordered.{ordered_filter}
use Rattle.iloc_rules.proofs.Choice.Ready.{ready_means_where, ready_rises_where}
use Rattle.iloc_rules.proofs.Choice.FirstOfAll.{first_is, first_none}
use Rattle.iloc_sched.proofs.Choice.IssuableIsReady.{ready_when, when_ready}
use Rattle.iloc_sched.proofs.Choice.IssuedChoice.{issued_at}

beside_by_class : (a b : Kind) → may_stand_beside a b ≡ not (excludes (class_of a) (class_of b))
beside_by_class a b = grind arith

apart_numbers : (a b : ℕ) → a ≢ b → not (a == b) ≡ true
apart_numbers a b apart = grind (arith, nat_tests)

numbers_apart : (a b : ℕ) → not (a == b) ≡ true → b ≡ a → ⊥
numbers_apart a b apart same = grind (arith, nat_tests)

abbrev row_one : Choice → Option Choice → Row
row_one a b = record { zero = number_of b; one = Some a.number }

abbrev row_zero : Choice → Option Choice → Row
row_zero a b = record { zero = Some a.number; one = number_of b }

none_excluded : (k : Class) → excludes C.Rest k ≡ false
none_excluded k = grind arith

-- what is offered beside a class is ready and not excluded by it
module _ (p : Plan) (w : Waiting) (f : ℕ) (under : IsUnderWay p w f) (k : Class) (j : ℕ) (there : j < length p.tables.now.ops.items) where
  pub opens : has w.calendar 32 (rank_of p j) ≡ true → excludes k (class_at p.tables.now.ops.items j) ≡ false → IsOpen p w k j
  opens held free = grind (arith, and_from)

  pub open_ready : IsOpen p w k j → has w.calendar 32 (rank_of p j) ≡ true
  open_ready is = (and_parts _ _ is.1).0

  pub open_free : IsOpen p w k j → excludes k (class_at p.tables.now.ops.items j) ≡ false
  open_free is = sym (under.calendar.kept.each k j there) ∙ not-true _ (and_parts _ _ is.1).1

module _ (p : Plan) (w : Waiting) (rows : List Row) (plan : IsPlan p)
    (under : IsUnderWay p w (length rows + 1))
    (matches : MatchesRows (length p.tables.now.ops.items) rows (progress_of p.ranks.now w).issued)
    (each : IsChosenWhere (counts_of p) p.priorities.now p.tables.now.latencies p.tables.now.ops.items rows) where
  abbrev all_ready : List ℕ
  all_ready = ready_where (counts_of p) p.tables.now.latencies p.tables.now.ops.items rows (length rows)

  ready_there : (j : ℕ) → In all_ready j → j < length p.tables.now.ops.items
  ready_there j held = grind (arith, ready_means_where)

  -- who is ready has its rank in the set
  ready_queued : (j : ℕ) → In all_ready j → has w.calendar 32 (rank_of p j) ≡ true
  ready_queued j held = under.queued.ready j (when_ready (counts_of p) p.tables.now.latencies p.tables.now.ops.items (graph_of p.tables.now.edges)
      (progress_of p.ranks.now w) rows plan.graph under.waits matches j held)

  -- whose rank is in the set is ready
  queued_ready : (j : ℕ) → j < length p.tables.now.ops.items → has w.calendar 32 (rank_of p j) ≡ true → In all_ready j
  queued_ready j there held = ready_when (counts_of p) p.tables.now.latencies p.tables.now.ops.items (graph_of p.tables.now.edges)
      (progress_of p.ranks.now w) rows plan.graph under.waits matches p.priorities.now each j
      (under.queued.only j (subst (λ n. j < n) (sym plan.graph.size) there) held)

  -- who has the lower rank goes before
  goes_before : (i j : ℕ) → i < length p.tables.now.ops.items → j < length p.tables.now.ops.items → rank_of p i ≤ rank_of p j
      → GoesBefore p.priorities.now i j
  goes_before i j i_there j_there low = let size = plan.priorities in plan.ranked.before i j (omega arith) (omega arith) low

  open_all : (j : ℕ) → In all_ready j → IsOpen p w C.Rest j
  open_all j held = opens p w (length rows + 1) under C.Rest j (ready_there j held) (ready_queued j held) (none_excluded (class_at p.tables.now.ops.items j))

  pub chosen_none : IsBest p w C.Rest None → first_of_all p.priorities.now all_ready ≡ None
  chosen_none none = first_none p.priorities.now all_ready (λ j held. none j (open_all j held))

  pub chosen_first : (a : Choice) → IsBest p w C.Rest (Some a) → first_of_all p.priorities.now all_ready ≡ Some a.number
  chosen_first a best =
      first_is p.priorities.now all_ready a.number
      (ready_rises_where (counts_of p) p.tables.now.latencies p.tables.now.ops.items rows (length rows))
      (queued_ready a.number best.0.0 (open_ready p w (length rows + 1) under C.Rest a.number best.0.0 best.0))
      (λ j held. goes_before a.number j best.0.0 (ready_there j held) (best.2 j (open_all j held)))

  module _ (w1 : Waiting) (a : Choice) (best_a : IsBest p w C.Rest (Some a)) (issues : Issues p w w1 (length rows) a) where
    kind_a : kind (op_at p.tables.now.ops.items a.number) ≡ a.kind
    kind_a = best_a.1

    abbrev beside : ℕ → Bool
    beside b = not (a.number == b) && may_stand_beside (kind (op_at p.tables.now.ops.items a.number))
        (kind (op_at p.tables.now.ops.items b))

    open_beside : (j : ℕ) → may_stand_beside (kind (op_at p.tables.now.ops.items a.number))
        (kind (op_at p.tables.now.ops.items j)) ≡ not (excludes (class_of a.kind) (class_at p.tables.now.ops.items j))
    open_beside j = grind (arith, beside_by_class, kind_a)

    -- a isn't ready any more
    not_a : (j : ℕ) → IsOpen p w1 (class_of a.kind) j → a.number ≢ j
    not_a j is same = grind (arith, issued_at, open_ready)

    -- who is ready and can go beside a is open in what is left
    left_open : (j : ℕ) → In (filter beside all_ready) j → IsOpen p w1 (class_of a.kind) j
    left_open j held =
        let parts = from_filter beside all_ready j held in
        let both = and_parts _ _ parts.1 in
        let there = ready_there j parts.0 in
        opens p w1 (length rows + 1) issues.under_way (class_of a.kind) j there
        (issues.ready j there (numbers_apart a.number j both.0) ∙ ready_queued j parts.0)
        (not-true _ (sym (open_beside j) ∙ both.1))

    -- who is open in it is ready and can go beside a
    open_left : (j : ℕ) → IsOpen p w1 (class_of a.kind) j → In (filter beside all_ready) j
    open_left j is =
        let apart : a.number ≢ j = not_a j is in
        in_filter beside all_ready j
        (queued_ready j is.0 (sym (issues.ready j is.0 (λ same. apart (sym same)))
        ∙ open_ready p w1 (length rows + 1) issues.under_way (class_of a.kind) j is.0 is))
        (and_from _ _ (apart_numbers a.number j apart)
        (open_beside j ∙ ap not (open_free p w1 (length rows + 1) issues.under_way (class_of a.kind) j is.0 is)))

    pub chosen_second : (b : Option Choice) → IsBest p w1 (class_of a.kind) b
        → first_of_all p.priorities.now (filter beside all_ready) ≡ number_of b
    chosen_second None none = first_none p.priorities.now (filter beside all_ready) (λ j held. none j (left_open j held))
    chosen_second (Some b) best =
        first_is p.priorities.now (filter beside all_ready) b.number
        (ordered_filter (λ (x y : ℕ). x < y) beside all_ready
        (ready_rises_where (counts_of p) p.tables.now.latencies p.tables.now.ops.items rows (length rows)))
        (open_left b.number best.0)
        (λ j held. let is : IsOpen p w1 (class_of a.kind) j = left_open j held in goes_before b.number j best.0.0 is.0 (best.2 j is))

    zero_beside : (b : Option Choice) → IsBest p w1 (class_of a.kind) b
        → is_some_kind is_memory (kind_in p.tables.now.ops.items (number_of b)) ≡ needs_zero_choice b
    zero_beside b none = grind arith

    pub chosen_row : (b : Option Choice) → IsBest p w1 (class_of a.kind) b
        → row_with a b ≡ chosen p.tables.now.ops.items p.priorities.now all_ready
    chosen_row b second = grind (arith, chosen_first, chosen_second, kind_a, zero_beside)
