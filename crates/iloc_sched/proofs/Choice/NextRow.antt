-- One more row of a schedule that is being made, and its end; for `Waiting::step`, `Scheduler::fill_rows`.
use Rattle.iloc_sched.proofs.Common.{◌≡◌, ℕ, suc, ◌+◌, ◌*◌, ◌<◌, ◌≤◌, true, false, cond, ◌≢◌, ◌⊎◌, List, [], ◌∷◌, ◌++◌, map, length, get_or, get_or_push, set, is_none, Some, None, sum_by, count_by, Option, option_to_list, sym, refl, ap, ◌∙◌, subst, arith, length-append, rules, sum_by-le, sum_by-set, Op, by_bool, kind, latency, empty_row, holds, row_at, slots, Latencies, Row, IsGreedyWhere, renamed, In, class_of, MatchesRows, IsBest, IsPlan, IsSoFar, IsUnderWay, Issues, IssuesAny, counts_of, number_of, row_with, slot_count, took_of, waiting_count, issued_list, progress_of, Plan, Waiting}
use Rattle.iloc_sched.specs.declared.cycle.Choice.{Choice}
use Rattle.iloc_sched.specs.declared.cycle.class.Class.TheVariants as C
use Rattle.iloc_rules.proofs.Basics.IssueCycles.{issue_cycle_more, issue_cycle_last, issue_cycle_beyond}
use Rattle.iloc_rules.proofs.Basics.Slots.{holds_from, from_holds}
use Rattle.iloc_rules.proofs.Choice.ChosenRows.{in_option}
use Rattle.iloc_rules.proofs.Choice.RowAfterRow.{chosen_more_where, chosen_is_greedy_where}
use Rattle.iloc_rules.proofs.Bounds.BusyCycles.{rows_bound_where}
use Rattle.iloc_sched.proofs.Choice.IssuedChoice.{issued_at, issued_other}
use Rattle.iloc_sched.proofs.Walking.TableReads.{issued_size}
use Rattle.iloc_sched.proofs.Choice.ChosenByRanks.{chosen_none, chosen_row}
use Rattle.iloc_timed.proofs.WholeRuns.{short_latency}

by_slots : {P : Type 0} → (row : Row) (j : ℕ) → (In (slots row) j → P) → ((In (slots row) j → ⊥) → P) → P
by_slots row j stands misses = by_bool (holds row j) (λ t. stands (from_holds row j t))
    (λ f. misses (λ there. let t : holds row j ≡ true = holds_from row j there in let e : true ≡ false = sym t ∙ f in
    cc))

matches_more : (n : ℕ) (rows : List Row) (row : Row) (issued issued' : ℕ → Option ℕ) → MatchesRows n rows issued
    → ((j : ℕ) → In (slots row) j → (issued j ≡ None) × (issued' j ≡ Some (length rows)))
    → ((j : ℕ) → (In (slots row) j → ⊥) → issued' j ≡ issued j) → MatchesRows n (rows ++ row ∷ []) issued'
matches_more n rows row issued issued' matches now others =
    grind (arith, by_slots, issue_cycle_beyond, issue_cycle_last, issue_cycle_more, length-append)

two_of : (o : Option ℕ) (a j : ℕ) → In (option_to_list o ++ a ∷ []) j → (o ≡ Some j) ⊎ (j ≡ a)
two_of o a j held = grind arith

-- who stands in the row of a choice
from_row : (a : Choice) (b : Option Choice) (j : ℕ) → In (slots (row_with a b)) j → (j ≡ a.number)
    ⊎ (number_of b ≡ Some j)
from_row a b j = grind (arith, in_option, two_of)

in_last : (o : Option ℕ) (a : ℕ) → In (option_to_list o ++ a ∷ []) a
in_last o a = grind arith

in_first : (a : Choice) (b : Option Choice) → In (slots (row_with a b)) a.number
in_first a b = grind (arith, in_last)

in_second : (a b : Choice) → In (slots (row_with a (Some b))) b.number
in_second a b = grind arith

-- the row of a choice isn't empty
pub row_filled : (a : Choice) (b : Option Choice) (row : Row) → row ≡ row_with a b → slots row ≡ [] → ⊥
row_filled a b row is none = grind (arith, in_first)

-- the last row isn't empty
pub last_filled : (rows : List Row) (row : Row) (c : ℕ) → (slots row ≡ [] → ⊥) → length (rows ++ row ∷ []) ≡ c + 1
    → slots (row_at (rows ++ row ∷ []) c) ≡ [] → ⊥
last_filled rows row c filled long empty =
    let size : length (rows ++ row ∷ []) ≡ length rows + 1 = length-append rows (row ∷ []) in
    let here : c ≡ length rows = omega arith in
    filled (sym (ap slots (ap (row_at (rows ++ row ∷ [])) here ∙ get_or_push rows row empty_row (length rows) refl)) ∙ empty)

-- the operations of a plan and their latencies, as a taker is handed them
module _ (p : Plan) (plan : IsPlan p) (ops : List Op) (own : List ℕ) (same : ops ≡ p.tables.now.ops.items)
    (same_own : own ≡ p.tables.now.own.items) where
  own_is : own ≡ map (latency p.tables.now.latencies) ops
  own_is = same_own ∙ (plan.own ∙ ap (map (latency p.tables.now.latencies)) (sym same))

  pub own_of_plan : (lat : Latencies) × (own ≡ map (latency lat) ops)
  own_of_plan = (p.tables.now.latencies, own_is)

  module _ {T : Type 0} (took : Latencies → List Op → T → List Row → T → Type 0) (before after : T) (row : Row) (cycle : ℕ) where
    pub row_taken : ((lat : Latencies) (start : T) (rows : List Row) → own ≡ map (latency lat) ops → took lat ops start rows before
        → length rows ≡ cycle → took lat ops start (rows ++ row ∷ []) after)
        → (start : T) (rows : List Row) → took_of took p start rows before → length rows ≡ cycle
        → took_of took p start (rows ++ row ∷ []) after
    row_taken takes start rows taken count =
        subst (λ xs. took p.tables.now.latencies xs start (rows ++ row ∷ []) after) same
        (takes p.tables.now.latencies start rows own_is
        (subst (λ xs. took p.tables.now.latencies xs start rows before) (sym same) taken) count)

-- nothing is ready
pub so_far_none : (p : Plan) (w w1 w2 : Waiting) (rows rows' : List Row) (row : Row) → IsPlan p
    → IsSoFar p w rows → issued_list w1 ≡ issued_list w → IsUnderWay p w1 (length rows + 1)
    → IsBest p w1 C.Rest None → IssuesAny p w1 w2 (length rows) None → row ≡ empty_row → rows' ≡ rows ++ row ∷ []
    → IsSoFar p w2 rows'
so_far_none p w w1 w2 rows rows' row plan so_far same under best issues is_row is_rows =
    let size : length (rows ++ empty_row ∷ []) ≡ length rows + 1 = length-append rows (empty_row ∷ []) in
    let matches : MatchesRows (length p.tables.now.ops.items) rows (progress_of p.ranks.now w1).issued =
    subst (λ xs. MatchesRows (length p.tables.now.ops.items) rows (λ j. get_or xs j None))
    (sym same) so_far.matches in
    grind (arith, chosen_more_where, chosen_none, matches_more)

-- the choices of a cycle in the tables
module _ (p : Plan) (w1 w2 w3 : Waiting) (c : ℕ) (a : Choice) (first : Issues p w1 w2 c a)
  where
    at_first : (progress_of p.ranks.now w2).issued a.number ≡ Some c
    at_first = issued_at (issued_list w1) (issued_list w2) a.number c first.issued first.there

    beside_first : (j : ℕ) → j ≢ a.number → (progress_of p.ranks.now w2).issued j ≡ (progress_of p.ranks.now w1).issued j
    beside_first j apart = issued_other (issued_list w1) (issued_list w2) a.number c j first.issued apart

    now_issued : (b : Option Choice) → IssuesAny p w2 w3 c b → (j : ℕ) → (j ≡ a.number)
        ⊎ (number_of b ≡ Some j) → ((progress_of p.ranks.now w1).issued j ≡ None) × ((progress_of p.ranks.now w3).issued j ≡ Some c)
    now_issued b second j held = grind (arith, at_first, beside_first, issued_at, issued_other)

    others_kept : (b : Option Choice) → IssuesAny p w2 w3 c b → (j : ℕ) → j ≢ a.number
        → ((x : Choice) → b ≡ Some x → j ≢ x.number) → (progress_of p.ranks.now w3).issued j ≡ (progress_of p.ranks.now w1).issued j
    others_kept b second j apart other = grind (arith, beside_first, issued_other)

    under_way_after : (b : Option Choice) → IssuesAny p w2 w3 c b → IsUnderWay p w3 (c + 1)
    under_way_after b second = grind arith

abbrev waits_one : Option ℕ → ℕ
waits_one o = cond (is_none o) 1 0

count_issued : (xs ys : List (Option ℕ)) (n c : ℕ) → ys ≡ set xs n (Some c) → n < length xs → get_or xs n None ≡ None
    → count_by is_none ys + 1 ≡ count_by is_none xs
count_issued xs ys n c is below none = grind (arith, sum_by-set)

-- how many wait after the choices of a cycle
pub count_after : (p : Plan) (w w1 w2 w3 : Waiting) (c : ℕ) (a : Choice) (b : Option Choice)
    → issued_list w1 ≡ issued_list w → Issues p w1 w2 c a → IssuesAny p w2 w3 c b
    → waiting_count w3 + slot_count b ≡ waiting_count w
count_after p w w1 w2 w3 c a None same first second = grind (arith, count_issued)
count_after p w w1 w2 w3 c a (Some b) same first second =
    let one : waiting_count w2 + 1 ≡ waiting_count w1 =
    count_issued (issued_list w1) (issued_list w2) a.number c first.issued first.there first.waiting in
    grind (arith, count_issued)

-- a first choice, and perhaps a second
pub so_far_row : (p : Plan) (w w1 w2 w3 : Waiting) (rows rows' : List Row) (row : Row)
    (a : Choice) (b : Option Choice) → IsPlan p → IsSoFar p w rows → issued_list w1 ≡ issued_list w
    → IsUnderWay p w1 (length rows + 1)
    → IsBest p w1 C.Rest (Some a) → Issues p w1 w2 (length rows) a → IsBest p w2 (class_of a.kind) b
    → IssuesAny p w2 w3 (length rows) b
    → row ≡ row_with a b → rows' ≡ rows ++ row ∷ [] → IsSoFar p w3 rows'
so_far_row p w w1 w2 w3 rows rows' row a b plan so_far same under best_a issues_a best_b issues_b is_row
    is_rows =
    let made : Row = row_with a b in
    let size : length (rows ++ row_with a b ∷ []) ≡ length rows + 1 = length-append rows (row_with a b ∷ []) in
    let matches : MatchesRows (length p.tables.now.ops.items) rows (progress_of p.ranks.now w1).issued =
    subst (λ xs. MatchesRows (length p.tables.now.ops.items) rows (λ j. get_or xs j None))
    (sym same) so_far.matches in
    let is : rows ++ row_with a b ∷ [] ≡ rows' = ap (λ r. rows ++ r ∷ []) (sym is_row) ∙ sym is_rows in
    subst (λ rs. IsSoFar p w3 rs) is (record {
      under_way = subst (λ n. IsUnderWay p w3 n) (sym size)
          (under_way_after p w1 w2 w3 (length rows) a issues_a b issues_b);
      matches = matches_more (length p.tables.now.ops.items) rows (row_with a b) (progress_of p.ranks.now w1).issued (progress_of p.ranks.now w3).issued
          matches
          (λ j stands. now_issued p w1 w2 w3 (length rows) a issues_a b issues_b j (from_row a b j stands))
          (λ j misses. others_kept p w1 w2 w3 (length rows) a issues_a b issues_b j
          (λ e. misses (subst (λ k. In (slots (row_with a b)) k) (sym e) (in_first a b)))
          (λ x some e. misses (subst (λ k. In (slots (row_with a b)) k) (sym e)
          (subst (λ o. In (slots (row_with a o)) x.number) (sym some) (in_second a x)))));
      each = chosen_more_where (counts_of p) p.priorities.now p.tables.now.latencies p.tables.now.ops.items rows (row_with a b) so_far.each
          (chosen_row p w1 rows plan under matches so_far.each w2 a best_a issues_a b best_b);
    })

-- a cycle in which nothing is ready, as the code has it
pub step_none : (p : Plan) (w w1 w2 : Waiting) (rows rows' : List Row) (row : Row) (c : ℕ)
    (first : Option Choice) → c ≡ length rows → IsPlan p → IsSoFar p w rows → issued_list w1 ≡ issued_list w
    → IsUnderWay p w1 (c + 1)
    → first ≡ None → IsBest p w1 C.Rest first → IssuesAny p w1 w2 c first → row ≡ empty_row → rows' ≡ rows ++ row ∷ []
    → IsSoFar p w2 rows'
step_none p w w1 w2 rows rows' row c first now plan so_far same under none best issues is_row is_rows =
    grind (arith, so_far_none p w w1 w2 rows rows' row plan so_far same)

-- a cycle with a choice, as the code has it
pub step_some : (p : Plan) (w w1 w2 w3 : Waiting) (rows rows' : List Row) (row : Row) (c : ℕ)
    (first : Option Choice) (a : Choice) (b : Option Choice) → c ≡ length rows → IsPlan p → IsSoFar p w rows
    → issued_list w1 ≡ issued_list w → IsUnderWay p w1 (c + 1)
    → first ≡ Some a → IsBest p w1 C.Rest first → IssuesAny p w1 w2 c first → IsBest p w2 (class_of a.kind) b
    → IssuesAny p w2 w3 c b → row ≡ row_with a b → rows' ≡ rows ++ row ∷ [] → IsSoFar p w3 rows'
step_some p w w1 w2 w3 rows rows' row c first a b now plan so_far same under some best issues best_b issues_b
    is_row is_rows =
    so_far_row p w w1 w2 w3 rows rows' row a b plan so_far same
    (subst (λ n. IsUnderWay p w1 (n + 1)) now under)
    (subst (λ o. IsBest p w1 C.Rest o) some best)
    (subst (λ n. IssuesAny p w1 w2 n (Some a)) now (subst (λ o. IssuesAny p w1 w2 c o) some issues))
    best_b
    (subst (λ n. IssuesAny p w2 w3 n b) now issues_b)
    is_row is_rows

pub step_count : (p : Plan) (w w1 w2 w3 : Waiting) (c n : ℕ) (first : Option Choice) (a : Choice)
    (b : Option Choice) → issued_list w1 ≡ issued_list w → first ≡ Some a → IssuesAny p w1 w2 c first
    → IssuesAny p w2 w3 c b
    → n ≡ slot_count b → waiting_count w3 + n ≡ waiting_count w
step_count p w w1 w2 w3 c n first a b same some issues issues_b is = grind (arith, count_after)

one_waits : (xs : List (Option ℕ)) → 0 < count_by is_none xs → (j : ℕ) × (j < length xs) × (get_or xs j None ≡ None)
one_waits [] some = absurd (omega arith)
one_waits (None ∷ xs) some = (0, omega arith, refl)
one_waits (Some c ∷ xs) some =
    let count : count_by is_none (Some c ∷ xs) ≡ count_by is_none xs = search rules in
    let rest : (j : ℕ) × (j < length xs) × (get_or xs j None ≡ None) = one_waits xs (omega arith) in
    (suc rest.0, let below : rest.0 < length xs = rest.1 in omega arith, rest.2)

short_sum : (lat : Latencies) (ops : List Op) → sum_by (latency lat) ops ≤ length ops * 16
short_sum lat ops = sum_by-le (latency lat) 16 ops (λ k d below. short_latency lat (kind (get_or ops k d)))

-- while one waits, there aren't more rows than cycles of latency
pub few_rows : (p : Plan) (w : Waiting) (rows : List Row) → IsPlan p → IsSoFar p w rows
    → 0 < waiting_count w → length rows ≤ 160000
few_rows p w rows plan so_far some =
    let found : (j : ℕ) × (j < length (issued_list w)) × (get_or (issued_list w) j None ≡ None) =
    one_waits (issued_list w) some in
    let below : found.0 < length (issued_list w) = found.1 in
    let table : length (issued_list w) ≡ length p.tables.now.edges.heads.items = issued_size p.tables.now.edges w so_far.under_way.sized in
    let size : length p.tables.now.edges.heads.items ≡ length p.tables.now.ops.items = plan.graph.size in
    let short : length p.tables.now.edges.heads.items ≤ 10000 = p.tables.now.edges.short in
    let bound : length rows ≤ sum_by (latency p.tables.now.latencies) p.tables.now.ops.items =
    rows_bound_where (counts_of p) p.priorities.now p.tables.now.latencies p.tables.now.ops.items rows found.0 so_far.each (omega arith)
    (so_far.matches.waiting found.0 (omega arith) found.2) in
    let sum : sum_by (latency p.tables.now.latencies) p.tables.now.ops.items ≤ length p.tables.now.ops.items * 16 = short_sum p.tables.now.latencies p.tables.now.ops.items in
    omega arith

waits_count : (xs : List (Option ℕ)) (j : ℕ) → j < length xs → get_or xs j None ≡ None → 1 ≤ count_by is_none xs
waits_count xs j below none = grind (arith, sum_by-set waits_one xs j (Some 0) None below)

none_waits : (xs : List (Option ℕ)) → count_by is_none xs ≡ 0 → (j : ℕ) → j < length xs
    → (t : ℕ) × (get_or xs j None ≡ Some t)
none_waits xs none j below = grind (arith, waits_count xs j below)

-- none waits, so the rows are the greedy schedule
pub greedy_at_end : (p : Plan) (w : Waiting) (rows : List Row) (block : List Op) → IsPlan p
    → IsSoFar p w rows → waiting_count w ≡ 0
    → ((c : ℕ) → length rows ≡ c + 1 → slots (row_at rows c) ≡ [] → ⊥) → p.tables.now.ops.items ≡ renamed block
    → IsGreedyWhere (counts_of p) p.priorities.now p.tables.now.latencies block p.tables.now.ops.items rows
greedy_at_end p w rows block plan so_far none last is =
    let table : length (issued_list w) ≡ length p.tables.now.edges.heads.items = issued_size p.tables.now.edges w so_far.under_way.sized in
    let size : length p.tables.now.edges.heads.items ≡ length p.tables.now.ops.items = plan.graph.size in
    chosen_is_greedy_where (counts_of p) p.priorities.now p.tables.now.latencies block p.tables.now.ops.items rows is so_far.each
    (λ i below.
    let found : (t : ℕ) × (get_or (issued_list w) i None ≡ Some t) = none_waits (issued_list w) none i (omega arith) in
    grind arith)
    last
