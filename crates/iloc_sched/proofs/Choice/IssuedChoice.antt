-- The tables and the calendar after a choice was issued, or released; for `Waiting::issue_first`, `release`.
use Rattle.iloc_sched.proofs.Common.{◌≡◌, ℕ, ◌+◌, ◌%◌, ◌<◌, true, false, not, ◌≢◌, List, length, get_or, set, Some, None, Option, sym, ap, ◌∙◌, subst, arith, get_or-set_other, get_or-set_same, and_parts, false≢true, op_at, kind, Kind, HasSameSets, IsFirst, KeepsRoom, Puts, Releases, has, offers, place_of, CanIssue, KeepsPlaces, Waits, IsBest, IsCalendar, IsPlan, IsRanked, IsUnderWay, Issues, rank_of, IsSized, bucket_of, graph_of, issued_list, progress_of, Calendar, Class, Plan, Waiting}
use Rattle.iloc_sched.proofs.Choice.EnteringReady.{queued_with_due, queued_after}
use Rattle.iloc_sched.proofs.Ranks.Calendars.{ranks_apart, same_has, same_room, room_kept, short_kept, calendar_put, calendar_released}
use Rattle.iloc_sched.proofs.Walking.TableReads.{issued_size}
use Rattle.iloc_sched.proofs.Walking.BucketOfCycle.{empties, same_buckets}

pub issued_at : (xs ys : List (Option ℕ)) (n c : ℕ) → ys ≡ set xs n (Some c) → n < length xs → get_or ys n None ≡ Some c
issued_at xs ys n c is below = ap (λ zs. get_or zs n None) is ∙ get_or-set_same xs n (Some c) None below

pub issued_other : (xs ys : List (Option ℕ)) (n c k : ℕ) → ys ≡ set xs n (Some c) → k ≢ n
    → get_or ys k None ≡ get_or xs k None
issued_other xs ys n c k is apart = ap (λ zs. get_or zs k None) is ∙ get_or-set_other xs n k (Some c) None apart

-- what becomes ready at cycle c is ready
pub released : (p : Plan) (w : Waiting) (k' : Calendar) (c : ℕ) → IsPlan p → IsUnderWay p w c
    → Releases w.calendar k' (c % 32) → KeepsRoom w.calendar k'
    → IsUnderWay p (record w { calendar = k' }) (c + 1)
released p w k' c plan under releases keeps = record {
  sized = under.sized;
  calendar = calendar_released p plan w.calendar k' under.calendar (c % 32) (omega arith) releases keeps;
  waits = empties (graph_of p.tables.now.edges) (progress_of p.ranks.now w) c (bucket_of p.ranks.now k') plan.graph.is_graph under.waits
      (λ j. releases.empty (rank_of p j))
      (λ b j small apart. releases.others b (rank_of p j) (omega arith) (λ same. absurd (omega arith)) apart);
  queued = grind (arith, queued_with_due);
}

-- the calendar has the same sets
pub same_under_way : (p : Plan) (w : Waiting) (k : Calendar) (f : ℕ) → HasSameSets w.calendar k → IsUnderWay p w f
    → IsUnderWay p (record w { calendar = k }) f
same_under_way p w k f same under = record {
  sized = under.sized;
  calendar = grind (arith, room_kept, same_has, same_room, short_kept);
  waits = grind (arith, same_buckets, same_has);
  queued = record {
    ready = λ j can. same_has w.calendar k same 32 (rank_of p j)
        ∙ under.queued.ready j (record { there = can.there; waiting = can.waiting; past_all = can.past_all; soon = can.soon });
    only = λ j low held.
        let can = under.queued.only j low (sym (same_has w.calendar k same 32 (rank_of p j)) ∙ held) in
        record { there = can.there; waiting = can.waiting; past_all = can.past_all; soon = can.soon };
  };
}

-- a rank that is offered is that of an operation that can be issued, and the first is that of the best
module _ (p : Plan) (w : Waiting) (f : ℕ) (beside : Class) (plan : IsPlan p) (under : IsUnderWay p w f) where
  pub none_is_best : IsFirst (offers w.calendar beside) None → IsBest p w beside None
  none_is_best none = λ j is. absurd (false≢true (sym (none (rank_of p j)) ∙ is.1))

  module _ (r : ℕ) (offered : offers w.calendar beside r ≡ true) where
    pub is_ready : has w.calendar 32 r ≡ true
    is_ready = (and_parts (has w.calendar 32 r) (not (has w.calendar (33 + place_of beside) r)) offered).0

    who : IsRanked p (length p.tables.now.ops.items) r
    who = under.calendar.ranked 32 r (omega arith) is_ready

    pub rank_there : r < length p.order.now
    rank_there = grind arith

    pub rank_below : r < length p.tables.now.ops.items
    rank_below = grind arith

    module _ (n : ℕ) (read : n ≡ get_or p.order.now r 0) where
      n_is : n ≡ who.0
      n_is = grind arith

      pub number_there : n < length p.tables.now.ops.items
      number_there = subst (λ m. m < length p.tables.now.ops.items) (sym n_is) who.1

      pub rank_is : rank_of p n ≡ r
      rank_is = ap (rank_of p) n_is ∙ who.2

      pub can_issue : CanIssue (graph_of p.tables.now.edges) (progress_of p.ranks.now w) f n
      can_issue = under.queued.only n (subst (λ m. n < m) (sym plan.graph.size) number_there) (ap (has w.calendar 32) rank_is ∙ is_ready)

      pub is_best : ((s : ℕ) → s < r → offers w.calendar beside s ≡ false) → (k : Kind) → k ≡ kind (op_at p.tables.now.ops.items n)
          → IsBest p w beside (Some (record { number = n; kind = k }))
      is_best none k read = grind (arith, false≢true, number_there, rank_is)

-- operation n is taken out of what is ready
module _ (p : Plan) (w : Waiting) (k : Calendar) (c n : ℕ) (plan : IsPlan p) (under : IsUnderWay p w (c + 1))
    (can : CanIssue (graph_of p.tables.now.edges) (progress_of p.ranks.now w) (c + 1) n)
    (takes : Puts w.calendar k 32 (rank_of p n) false) where
  abbrev left : Waiting
  left = record w { calendar = k }

  pub taken_calendar : KeepsRoom w.calendar k → IsCalendar p k
  taken_calendar keeps = calendar_put p plan w.calendar k under.calendar 32 n false (omega arith)
      (subst (λ m. n < m) plan.graph.size can.there) takes keeps

  pub taken_can : CanIssue (graph_of p.tables.now.edges) (progress_of p.ranks.now left) (c + 1) n
  taken_can = record { there = can.there; waiting = can.waiting; past_all = can.past_all; soon = can.soon }

  pub taken_waits : Waits (graph_of p.tables.now.edges) (progress_of p.ranks.now left) (c + 1) 0 None
  taken_waits = grind (arith, same_buckets)

-- operation n is taken out of what is ready, and issued at cycle c
module _ (p : Plan) (w w' : Waiting) (k : Calendar) (c n : ℕ) (plan : IsPlan p) (under : IsUnderWay p w (c + 1))
    (can : CanIssue (graph_of p.tables.now.edges) (progress_of p.ranks.now w) (c + 1) n)
    (takes : Puts w.calendar k 32 (rank_of p n) false)
    (kept : (r : ℕ) → has w'.calendar 32 r ≡ has k 32 r) where
  there : n < length p.tables.now.ops.items
  there = subst (λ m. n < m) plan.graph.size can.there

  ready_others : (j : ℕ) → j < length p.tables.now.ops.items → j ≢ n
      → has w'.calendar 32 (rank_of p j) ≡ has w.calendar 32 (rank_of p j)
  ready_others j j_there apart = grind (arith, ranks_apart, there)

  pub issues_choice : (k : Kind) → Waits (graph_of p.tables.now.edges) (progress_of p.ranks.now w') (c + 1) 0 None
      → issued_list w' ≡ set (issued_list w) n (Some c)
      → KeepsPlaces (progress_of p.ranks.now w) (progress_of p.ranks.now w') → IsSized p.tables.now.edges w' → IsCalendar p w'.calendar
      → Issues p w w' c (record { number = n; kind = k })
  issues_choice k waits' issued keeps sized' calendar' =
      let size : length (issued_list w) ≡ length p.tables.now.edges.heads.items = issued_size p.tables.now.edges w under.sized in
      let below : n < length (issued_list w) = omega arith in
      record {
        under_way = record {
          sized = sized';
          calendar = calendar';
          waits = waits';
          queued = queued_after p.ranks.now (graph_of p.tables.now.edges) (progress_of p.ranks.now w) (progress_of p.ranks.now w') c n
              w.calendar w'.calendar plan.graph.is_graph under.waits waits'
              (issued_at (issued_list w) (issued_list w') n c issued below)
              (λ j apart. issued_other (issued_list w) (issued_list w') n c j issued apart)
              keeps
              (λ held. false≢true (sym takes.here ∙ sym (kept (rank_of p n)) ∙ held))
              (λ j j_there apart. ready_others j (subst (λ m. j < m) plan.graph.size j_there) apart)
              under.queued;
        };
        there = below;
        waiting = can.waiting;
        issued = issued;
        ready = ready_others;
      }
