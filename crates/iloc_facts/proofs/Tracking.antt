-- Rows in mid-run, one step on; and what is held then is what is read.
use Rattle.iloc_facts.proofs.Common.{◌≡◌, ℕ, ◌+◌, ◌%◌, ◌<◌, ◌≤◌, true, false, List, [], ◌∷◌, ◌++◌, map, length, set, Some, None, fold, Option, option_map, option_to_list, sym, refl, ap, ◌∙◌, inl, add-one, arith, get_or-map, length-map, map-append, map-set, defined, Op, Reg, defines, is_register, op_at, result_of, result_or_zero, IsTable, issue_cycle, row_at, Issued, register_in, Latencies, Row, in_left, in_right, cycle_is, numbers_before, due, read, Tracks, landed_at, mark, marked, marked_by, sent_as, with_slot, holder, Holders, Run}
use Rattle.iloc_meaning.specs.Results.{GoesTo}
use Rattle.iloc_meaning.specs.Outcome.{is_fault}
use Rattle.iloc_timed.specs.declared.wheel.Pending.TheVariants.{Register}
use Rattle.iloc_timed.specs.Latency.{latency}
use Rattle.iloc_timed.specs.Wheel.{list_at}
use Rattle.iloc_timed.specs.Steps.Pending.{sent_by, landed_in_register}
use Rattle.iloc_timed.specs.Steps.Wheel.{due_at, AreUnderWay}
use Rattle.iloc_timed.specs.Steps.Machine.{landed}
use Rattle.iloc_timed.proofs.Following.{all_land_later}
use Rattle.iloc_timed.proofs.Landing.{register_more, landed-later, landed_is_arrived}
use Rattle.iloc_timed.proofs.Turning.{cleared, pushed}
use Rattle.iloc_facts.specs.declared.reading.run.Arrival.{Arrival}
use Rattle.iloc_facts.proofs.ReadValues.{agree, value_of, value_mapped, read_in}

-- one step on

mark_landed : (r : Reg) (o : Option ℕ) (due : List Arrival)
    → mark (fold (landed_at r) o due) ≡ fold (landed_in_register r) (mark o) (map sent_as due)
mark_landed r o [] = refl
mark_landed r o (a ∷ due) = grind (arith, mark_landed r (landed_at r o a) due)

lists_sent : (lists : List (List Arrival)) (c : ℕ) → length lists ≡ 16
    → list_at (map (map sent_as) lists) c ≡ map sent_as (list_at lists c)
lists_sent lists c count = grind (arith, get_or-map)

length_sent : (lists : List (List Arrival)) → length (map (map sent_as) lists) ≡ length lists
length_sent lists = length-map lists (map sent_as)

-- what is due at cycle c has landed
pub tracks_landing : (c : ℕ) (log : List Issued) (run : Run) (holders : Holders) (due : List Arrival)
    (wheel : List (List Arrival)) → due ≡ list_at run.wheel c
    → ((r : Reg) → holder holders r ≡ fold (landed_at r) (holder run.holders r) due) → wheel ≡ set run.wheel (c % 16) []
    → Tracks c log run → Tracks (c + 1) log (record run { holders = holders; wheel = wheel })
tracks_landing c log run holders due wheel is lands turned tracks =
    let count : length run.wheel ≡ 16 = sym (length_sent run.wheel) ∙ tracks.under_way.count in
    let all : map sent_as due ≡ due_at c log =
    ap (map sent_as) is ∙ sym (lists_sent run.wheel c count) ∙ tracks.under_way.due c (omega arith) (omega arith) in
    record {
      held = λ r.
          ap mark (lands r)
          ∙ mark_landed r (holder run.holders r) due
          ∙ ap (λ l. fold (landed_in_register r) (mark (holder run.holders r)) l) all
          ∙ ap (λ v. fold (landed_in_register r) v (due_at c log)) (tracks.held r)
          ∙ sym (register_more r (c + 16) c log tracks.all_land);
      under_way =
          let lists : map (map sent_as) wheel ≡ set (map (map sent_as) run.wheel) (c % 16) [] =
          ap (map (map sent_as)) turned ∙ map-set (map sent_as) run.wheel (c % 16) [] in
          rw lists (cleared c log (map (map sent_as) run.wheel) tracks.all_land tracks.under_way);
      all_land = all_land_later (c + 16) (c + 1 + 16) log (omega arith) tracks.all_land;
    }

no_fault : (d : Option Reg) (k : ℕ) → is_fault (marked_by d k) ≡ false
no_fault None k = refl
no_fault (Some r) k = refl

goes : (d : Option Reg) (k : ℕ) → GoesTo d (marked_by d k)
goes None k = tt
goes (Some r) k = tt

sends : (d : Option Reg) (k : ℕ) → sent_by d (marked_by d k) ≡ option_map (λ r. Register r (mark (Some k))) d
sends None k = refl
sends (Some r) k = refl

issued : (c due k : ℕ) (op : Op) (log : List Issued) (run : Run) (wheel : List (List Arrival)) → c ≤ due → due < c + 16
    → AreUnderWay c (marked due op k ∷ log) (map (map sent_as) wheel) → Tracks c log run
    → Tracks c (marked due op k ∷ log) (record run { wheel = wheel })
issued c due k op log run wheel from upto way tracks = grind (arith, goes, landed-later, no_fault)

-- an operation is issued, and its result is under way
pub tracks_result : (c due k : ℕ) (op : Op) (r : Reg) (log : List Issued) (run : Run) (wheel : List (List Arrival))
    → c ≤ due → due < c + 16 → Some r ≡ defined op
    → wheel ≡ set run.wheel (due % 16) (list_at run.wheel due ++ record { register = r; op = k } ∷ [])
    → Tracks c log run → Tracks c (marked due op k ∷ log) (record run { wheel = wheel })
tracks_result c due k op r log run wheel from upto defines turned tracks =
    let count : length run.wheel ≡ 16 = sym (length_sent run.wheel) ∙ tracks.under_way.count in
    let arrival : Arrival = record { register = r; op = k } in
    let sent : sent_by (defined op) (marked_by (defined op) k) ≡ Some (sent_as arrival) =
    sends (defined op) k ∙ ap (option_map (λ (s : Reg). Register s (mark (Some k)))) (sym defines) in
    let lists : map (map sent_as) wheel
    ≡ set (map (map sent_as) run.wheel) (due % 16) (list_at (map (map sent_as) run.wheel) due ++ sent_as arrival ∷ []) =
    ap (map (map sent_as)) turned
    ∙ map-set (map sent_as) run.wheel (due % 16) (list_at run.wheel due ++ arrival ∷ [])
    ∙ ap (set (map (map sent_as) run.wheel) (due % 16))
    (map-append sent_as (list_at run.wheel due) (arrival ∷ [])
    ∙ ap (λ l. l ++ sent_as arrival ∷ []) (sym (lists_sent run.wheel due count))) in
    issued c due k op log run wheel from upto
    (rw lists (pushed c (marked due op k) log (map (map sent_as) run.wheel) (sent_as arrival) from upto sent tracks.under_way))
    tracks

-- what is held is what is read

mark_same : (o p : Option ℕ) → mark o ≡ mark p → o ≡ p
mark_same o p same = grind arith

given_by : (r : Reg) (d : Option Reg) (k : ℕ) → is_register r d ≡ true → result_of (marked_by d k) ≡ mark (Some k)
given_by r None k is = absurd cc
given_by r (Some s) k is = refl

module _ (lat : Latencies) (ops : List Op) (rows : List Row) where
  -- operation k in the log
  abbrev pub in_log : ℕ → Issued
  in_log k = marked (due lat ops rows k) (op_at ops k) k

  -- what is issued before cycle c
  abbrev pub log_before : ℕ → List Issued
  log_before c = map in_log (numbers_before rows c)

  value_marked : (r : Reg) (o : Option ℕ) → ((k : ℕ) → o ≡ Some k → is_register r (defined (op_at ops k)) ≡ true)
      → value_of in_log o ≡ mark o
  value_marked r None is = refl
  value_marked r (Some k) is = given_by r (defined (op_at ops k)) k (is k refl)

  read_marked : (c : ℕ) (r : Reg) → register_in (landed (c + 1) (log_before c)) r ≡ mark (read lat ops rows c r)
  read_marked c r =
      ap (λ log. register_in log r) (landed_is_arrived c (log_before c))
      ∙ ap (λ o. result_or_zero (option_map (λ (x : Issued). x.executed) o)) (agree in_log (defines r) c rows c)
      ∙ value_mapped in_log (read lat ops rows c r)
      ∙ value_marked r (read lat ops rows c r) (λ k is. (read_in lat ops rows c r k is).defines)

  -- a register holds what is read in it
  pub held_is_read : (c : ℕ) (run : Run) → Tracks (c + 1) (log_before c) run → (r : Reg)
      → holder run.holders r ≡ read lat ops rows c r
  held_is_read c run tracks r =
      mark_same (holder run.holders r) (read lat ops rows c r) (tracks.held r ∙ read_marked c r)

  in_log_is : (c k : ℕ) → issue_cycle rows k ≡ c → marked (c + latency lat (op_at ops k)) (op_at ops k) k ≡ in_log k
  in_log_is c k at = ap (λ n. marked (n + latency lat (op_at ops k)) (op_at ops k) k) (sym at)

  both_issued : (c : ℕ) (one zero : Option ℕ) (ks : List ℕ) → ((k : ℕ) → one ≡ Some k → issue_cycle rows k ≡ c)
      → ((k : ℕ) → zero ≡ Some k → issue_cycle rows k ≡ c)
      → with_slot lat ops c one (with_slot lat ops c zero (map in_log ks))
      ≡ map in_log ((option_to_list one ++ option_to_list zero) ++ ks)
  both_issued c one zero ks first second = grind (arith, in_log_is)

  -- the log with a row more
  pub row_issued : (c : ℕ) → IsTable ops rows
      → with_slot lat ops c (row_at rows c).one (with_slot lat ops c (row_at rows c).zero (log_before c))
      ≡ log_before (c + 1)
  row_issued c table =
      both_issued c (row_at rows c).one (row_at rows c).zero (numbers_before rows c)
      (λ k is. cycle_is ops rows table c k (in_left (option_to_list (row_at rows c).one) (option_to_list (row_at rows c).zero) k
      (rw is (inl refl))))
      (λ k is. cycle_is ops rows table c k (in_right (option_to_list (row_at rows c).one) (option_to_list (row_at rows c).zero)
      k (rw is (inl refl))))
      ∙ ap log_before (sym (add-one c))

  -- one cycle on
  pub row_tracked : (c : ℕ) (lent : List Op) (lent_rows : List Row) (landed_run zero_run one_run : Run) → IsTable ops rows
      → lent ≡ ops → lent_rows ≡ rows → Tracks (c + 1) (log_before c) landed_run
      → ((log : List Issued) → Tracks (c + 1) log landed_run
      → Tracks (c + 1) (with_slot lat lent c (row_at lent_rows c).zero log) zero_run)
      → ((log : List Issued) → Tracks (c + 1) log zero_run
      → Tracks (c + 1) (with_slot lat lent c (row_at lent_rows c).one log) one_run)
      → Tracks (c + 1) (log_before (c + 1)) one_run
  row_tracked c lent lent_rows landed_run zero_run one_run table same same_rows tracks first second = grind (arith, row_issued)
