-- The states and buckets with which a schedule begins; for `Waiting::open`.
use Rattle.iloc_sched.proofs.Common.{◌≡◌, ℕ, ◌+◌, ◌-◌, ◌<◌, ◌≤◌, Bool, true, false, ◌||◌, eqb, ◌≢◌, List, [], ◌∷◌, ◌++◌, map, length, get_or, replicate, None, sym, refl, ap, ◌∙◌, inl, true≢false, arith, eq-eqb, eqb-true, length-map, length-replicate, replicate_more, get_or-map-range_with_len, map-range_with_len_more, range_with_len, by_bool, HasRoom, KeepsRoom, Puts, has, excludes, place_of, IsOpening, not_issued, Progress, Waits, IsCalendar, IsPlan, IsSoFar, class_at, rank_of, Graph, IsGraph, IsSized, earliest_list, graph_of, issued_list, progress_of, unmet_in, unmet_list, Calendar, Class, Plan, OperationState, Waiting}
use Rattle.iloc_sched.proofs.Basics.Cases.{by_eq, not_both}
use Rattle.iloc_sched.proofs.Ranks.Calendars.{place_small, room_kept, room_trans, short_kept, ranks_apart, kept_put, keeps_out_more}
use Rattle.iloc_sched.proofs.Ranks.Cells.{by_both, read_replicate}
use Rattle.iloc_sched.proofs.Walking.UnmetEdges.{not_true, count_all}

pushed : {Y : Type 0} → (f : OperationState → Y) (xs : List OperationState) (s : OperationState) → map f (xs ++ s ∷ []) ≡ map f xs ++ f s ∷ []
pushed f [] s = refl
pushed f (x ∷ xs) s = ap (λ ys. f x ∷ ys) (pushed f xs s)

-- how many edges lead into an operation
abbrev edges_into : Graph → ℕ → ℕ
edges_into graph j = graph.start (j + 1) - graph.start j

or_false : (b : Bool) → (b || false) ≡ b
or_false b = grind arith

-- the states of one more operation, of which it is noted what it keeps out in calendar m
module _ (p : Plan) (w v : Waiting) (m : Calendar) (n : ℕ) (state : OperationState) (plan : IsPlan p) (there : n < length p.tables.now.ops.items)
    (so_far : IsOpening p w n) (states : v.states.items ≡ w.states.items ++ state ∷ []) (issued : issued_list v ≡ issued_list w)
    (unmet : state.unmet ≡ (graph_of p.tables.now.edges).start (n + 1) - (graph_of p.tables.now.edges).start n)
    (soon : state.earliest ≡ 0) (class : Class) (is : class ≡ class_at p.tables.now.ops.items n)
    (noted : Puts w.calendar m (33 + place_of class) (rank_of p n) (excludes class class || has w.calendar (33 + place_of class) (rank_of p n)))
    (room : KeepsRoom w.calendar m) where
  same_below : (s r : ℕ) → s ≤ 32 → has m s r ≡ has w.calendar s r
  same_below s r low = noted.others s r (omega (arith, place_small class)) (λ same _. absurd (omega arith))

  unmet_more : unmet_list v ≡ map (edges_into (graph_of p.tables.now.edges)) (range_with_len 0 (n + 1))
  unmet_more = ap unmet_in states ∙ pushed (λ (s : OperationState). s.unmet) w.states.items state
      ∙ ap (λ x. unmet_list w ++ x ∷ []) unmet ∙ ap (λ xs. xs ++ edges_into (graph_of p.tables.now.edges) n ∷ []) so_far.unmet
      ∙ sym (map-range_with_len_more (edges_into (graph_of p.tables.now.edges)) 0 n n (omega arith))

  earliest_more : earliest_list v ≡ replicate (n + 1) 0
  earliest_more = grind (arith, pushed, replicate_more)

  new_rank : has m 0 (rank_of p n) ≡ false
  new_rank = grind (arith, ranks_apart, same_below)

  -- it goes into the first bucket if it has no edge to wait for
  pub opening_more : (ready : Bool)
      → ready ≡ eqb ((graph_of p.tables.now.edges).start n) ((graph_of p.tables.now.edges).start (n + 1))
      → Puts m v.calendar 0 (rank_of p n) (ready || has m 0 (rank_of p n)) → KeepsRoom m v.calendar → IsOpening p v (n + 1)
  opening_more ready at_end puts keeps = record {
    issued = issued ∙ so_far.issued;
    unmet = unmet_more;
    earliest = earliest_more;
    room = room_kept w.calendar v.calendar (length p.tables.now.ops.items) (room_trans w.calendar m v.calendar room keeps) so_far.room;
    kept = kept_put p m v.calendar (n + 1) 0 (rank_of p n) _ (omega arith) puts
        (keeps_out_more p plan w.calendar m n class there so_far.kept is noted);
    short = short_kept w.calendar v.calendar p.short (room_trans w.calendar m v.calendar room keeps) so_far.short;
    roots = λ j below. by_eq j n
        (λ same. ap (λ k. has v.calendar 0 (rank_of p k)) same ∙ puts.here ∙ ap (λ b. ready || b) new_rank ∙ or_false ready ∙ at_end
        ∙ ap (λ k. eqb ((graph_of p.tables.now.edges).start k) ((graph_of p.tables.now.edges).start (k + 1))) (sym same))
        (λ apart. puts.others 0 (rank_of p j) (omega arith) (λ _ same. apart (ranks_apart p plan j n (omega arith) there same))
        ∙ same_below 0 (rank_of p j) (omega arith) ∙ so_far.roots j (omega arith));
    only = λ s r low held. by_both s 0 r (rank_of p n)
        (λ first same. (first, (n, omega arith, sym same)))
        (λ other.
        let was = so_far.only s r low (sym (puts.others s r (omega arith) other ∙ same_below s r low) ∙ held) in
        (was.0, (was.1.0, omega arith, was.1.2)));
  }

-- nothing is issued yet
pub opened : (graph : Graph) (w : Progress) → IsGraph graph → ((j : ℕ) → w.issued j ≡ None)
    → ((j : ℕ) → j < graph.ops → w.unmet j ≡ graph.start (j + 1) - graph.start j) → ((j : ℕ) → w.earliest j ≡ 0)
    → ((j : ℕ) → j < graph.ops → w.bucket 0 j ≡ eqb (graph.start j) (graph.start (j + 1)))
    → ((b j : ℕ) → b < 32 → b ≢ 0 → w.bucket b j ≡ false) → Waits graph w 0 0 None
opened graph w is none unmet earliest roots others = record {
  is_unmet = λ x. true;
  unmet = grind (arith, count_all);
  ahead = λ x there from up. refl;
  stuck = λ x there yes. inl (none (graph.from x));
  past = λ x there no. not_true true no refl;
  reached = λ j there. inl (earliest j);
  complete = λ j t there was. not_both (w.issued j) t (none j) was;
  times = λ j t there was. not_both (w.issued j) t (none j) was;
  waits = grind (arith, eq-eqb);
  only = grind (arith, eqb-true, true≢false);
}

-- none is made
pub opening_none : (p : Plan) (w : Waiting) → w.states.items ≡ []
    → issued_list w ≡ replicate (length p.tables.now.edges.heads.items) not_issued
    → HasRoom w.calendar (length p.tables.now.ops.items)
    → ((s r : ℕ) → has w.calendar s r ≡ false) → p.short ≡ eqb w.calendar.blocks 0 → IsOpening p w 0
opening_none p w none issued room empty short = grind (arith, true≢false)

-- all states are made
module _ (p : Plan) (w : Waiting) (plan : IsPlan p) (made : IsOpening p w (length p.tables.now.edges.heads.items)) where
  pub none_issued : (j : ℕ) → (progress_of p.ranks.now w).issued j ≡ None
  none_issued j = ap (λ xs. get_or xs j None) made.issued ∙ read_replicate (length p.tables.now.edges.heads.items) not_issued j

  in_first : (s r : ℕ) → s ≤ 32 → s ≢ 0 → has w.calendar s r ≡ false
  in_first s r low other = by_bool (has w.calendar s r) (λ held. absurd (other (made.only s r low held).0)) (λ none. none)

  pub all_opened : Waits (graph_of p.tables.now.edges) (progress_of p.ranks.now w) 0 0 None
  all_opened = opened (graph_of p.tables.now.edges) (progress_of p.ranks.now w) plan.graph.is_graph none_issued
      (grind (arith, get_or-map-range_with_len))
      (λ j. ap (λ xs. get_or xs j 0) made.earliest ∙ read_replicate (length p.tables.now.edges.heads.items) 0 j)
      made.roots
      (λ b j small other. in_first b (rank_of p j) (omega arith) other)

  pub all_sized : IsSized p.tables.now.edges w
  all_sized = grind (arith, length-map, length-replicate)

  pub all_calendar : IsCalendar p w.calendar
  all_calendar = grind arith

  pub none_ready : (r : ℕ) → has w.calendar 32 r ≡ false
  none_ready r = in_first 32 r (omega arith) (λ same. absurd (omega arith))

-- no row yet
pub so_far_opened : (p : Plan) (w : Waiting) → Waits (graph_of p.tables.now.edges) (progress_of p.ranks.now w) 0 0 None
    → IsSized p.tables.now.edges w → IsCalendar p w.calendar → ((j : ℕ) → (progress_of p.ranks.now w).issued j ≡ None)
    → ((r : ℕ) → has w.calendar 32 r ≡ false) → IsSoFar p w []
so_far_opened p w waits sized calendar none empty = grind (arith, true≢false)
