-- The best schedule and the bound while they are improved: `Optimizer::optimize`.
use Rattle.iloc_optimum.proofs.Common.{◌≡◌, ℕ, ◌+◌, ◌<◌, ◌≤◌, ◌⊎◌, List, [], ◌∷◌, map, length, get_or, take, slice_index, slice_set, sym, ap, ◌∙◌, subst, inl, inr, arith, take_all, get_or-set_other, get_or-set_same, cases_lt, get_or_default, take_more, Op, cycles, kind, Kind, Latencies, Row, from_append, from_map, heuristics, renamed, priorities_under, Chain, MemoryRule, Edge, ruled_least_bound, least_under, IsBound, AreDelayPairs, AreLeft, IsAsShortAs, IsCountOf, IsOptimumOf, cycles_of, HasNone, Windows}
use Rattle.iloc_timed.specs.Schedule.{Table}
use Rattle.iloc_timed.proofs.WholeRuns.{short_latency}
use Rattle.iloc_rules.specs.declared.delay_pairs.TheConstants.{LONGEST_DELAY}
use Rattle.iloc_rules.specs.declared.heuristic.Heuristic.{Heuristic}
use Rattle.iloc_sched.specs.Scheduled.{IsTheScheduleBy}
use Rattle.iloc_rules.proofs.Basics.IssueCycles.{issue_cycle_within}
use Rattle.iloc_rules.proofs.Basics.Maxima.{fold_max_reached}
use Rattle.iloc_rules.specs.Steps.Members.{In}
use Rattle.iloc_rules.proofs.PriorityValues.Named.{listed}
use Rattle.iloc_rules.proofs.Outcome.LawfulOutcomes.{ruled_same_outcome}
use Rattle.iloc_optimum.specs.declared.optimizer.Optimum.{Optimum}
use Rattle.iloc_optimum.proofs.LawfulTimings.{bound_raised}
use Rattle.iloc_optimum.specs.Steps.Improving.{IsLawfulBy, IsShortened}

-- any schedule ends within the longest latency after its rows
pub cycles_within : (lat : Latencies) (ops : List Op) (rows : List Row) → cycles lat ops rows ≤ length rows + LONGEST_DELAY
cycles_within lat ops rows = grind (arith, fold_max_reached, from_map, issue_cycle_within, short_latency)

-- the greedy schedule by a heuristic is as short as any
as_short : (rule : MemoryRule) (lat : Latencies) (block : List Op) (h : Heuristic) (s other : Table)
    → IsTheScheduleBy rule (priorities_under rule h lat) lat block other → cycles_of lat s ≤ cycles_of lat other
    → IsAsShortAs rule h lat block s
as_short rule lat block h s other the few t greedy = grind arith

pub one_lawful : (rule : MemoryRule) (lat : Latencies) (block : List Op) (old new other : Table) → IsLawfulBy rule lat block other
    → (new ≡ old) ⊎ (new ≡ other) → IsLawfulBy rule lat block old → IsLawfulBy rule lat block new
one_lawful rule lat block old new other lawful one was = grind arith

pub shortened : (rule : MemoryRule) (lat : Latencies) (block : List Op) (h : Heuristic) (old new other : Table)
    → IsTheScheduleBy rule (priorities_under rule h lat) lat block other → (new ≡ old) ⊎ (new ≡ other)
    → cycles_of lat new ≤ cycles_of lat old → cycles_of lat new ≤ cycles_of lat other → IsShortened rule lat block h old new
shortened rule lat block h old new other the one fewer few = grind (arith, one_lawful, as_short)

-- a lawful schedule, as short as those that are greedy by the first n of these heuristics
pub record IsBestOf (rule : MemoryRule) (lat : Latencies) (block : List Op) (heuristics : List Heuristic) (n : ℕ) (s : Table) : Type 0 where
  pub lawful : IsLawfulBy rule lat block s
  pub orders : (h : Heuristic) → In (take n heuristics) h → IsAsShortAs rule h lat block s

pub best_of_one : (rule : MemoryRule) (lat : Latencies) (block : List Op) (h : Heuristic) (others : List Heuristic) (s : Table)
    → IsTheScheduleBy rule (priorities_under rule h lat) lat block s → IsBestOf rule lat block (h ∷ others) 1 s
best_of_one rule lat block h others s the = grind (arith, as_short)

pub best_of_more : (rule : MemoryRule) (lat : Latencies) (block : List Op) (hs : List Heuristic) (n : ℕ) (d : Heuristic)
    (old new : Table) → n < length hs → IsBestOf rule lat block hs n old → IsShortened rule lat block (get_or hs n d) old new
    → IsBestOf rule lat block hs (n + 1) new
best_of_more rule lat block hs n d old new within was shorter = record {
  lawful = shorter.lawful was.lawful;
  orders = λ k there t greedy. elim (from_append (take n hs) (get_or hs n d ∷ []) k
      (subst (λ xs. In xs k) (take_more hs n d within) there)) [
        | inl before ↦ let short = was.orders k before t greedy in let fewer = shorter.fewer in omega arith
        | inr now ↦ elim now [
          | inl same ↦ subst (λ x. IsAsShortAs rule x lat block new) same shorter.order t greedy
          | inr none ↦ absurd none
        ]
      ];
}

-- the cycles of the schedule that is greedy by a heuristic
pub count_of_the : (rule : MemoryRule) (lat : Latencies) (block : List Op) (h : Heuristic) (s : Table)
    → IsTheScheduleBy rule (priorities_under rule h lat) lat block s → (n : ℕ) → n ≡ cycles_of lat s
    → IsCountOf rule h lat block n
count_of_the rule lat block h s the n counted = record { schedule = s; greedy = the.greedy; counted = counted }

-- the cycles of one greedy schedule more
pub counts_more : (rule : MemoryRule) (lat : Latencies) (block : List Op) (cycles : List ℕ) (n m : ℕ) (d : Heuristic)
    → length cycles ≡ length heuristics → n < length heuristics
    → ((i : ℕ) → i < n → IsCountOf rule (get_or heuristics i Chain) lat block (slice_index cycles i))
    → IsCountOf rule (get_or heuristics n d) lat block m
    → (i : ℕ) → i < n + 1 → IsCountOf rule (get_or heuristics i Chain) lat block (slice_index (slice_set cycles n m) i)
counts_more rule lat block cycles n m d size within each count i below =
    let P : ℕ → Heuristic → Type 0 = λ c h. IsCountOf rule h lat block c in
    elim (cases_lt i n) [
      | inl before ↦
          subst (λ c. P c (get_or heuristics i Chain)) (sym (get_or-set_other cycles n i m 0 (λ same. omega (arith, same, before))))
          (each i before)
      | inr after ↦
          let same : n ≡ i = omega (arith, below, after) in
          subst (λ k. P (slice_index (slice_set cycles n m) k) (get_or heuristics k Chain)) same
          (subst (λ c. P c (get_or heuristics n Chain)) (sym (get_or-set_same cycles n m 0 (omega (arith, size, within))))
          (subst (P m) (get_or_default heuristics n d Chain within) count))
    ]

pub best_of_all : (rule : MemoryRule) (lat : Latencies) (block : List Op) (n : ℕ) (s : Table) (bound : ℕ) → length heuristics ≤ n
    → IsBestOf rule lat block heuristics n s → bound ≡ least_under rule lat block
    → IsOptimumOf rule lat block (record { schedule = s; bound = bound })
best_of_all rule lat block n s bound all best is = record {
  lawful = best.lawful;
  outcome = λ memory. ruled_same_outcome rule lat block s.ops s.rows memory best.lawful;
  orders = λ h. best.orders h (subst (λ xs. In xs h) (sym (take_all n heuristics all)) (listed h));
  bound = λ ops rows other. let low = ruled_least_bound rule lat block ops rows other in omega arith;
  least = omega arith;
}

-- where a search within the windows of a graph's operations found nothing
pub refuted : (rule : MemoryRule) (lat : Latencies) (block names : List Op) (limit : ℕ) (edges : List Edge) (kinds : List Kind) (w : Windows)
    → names ≡ renamed block → kinds ≡ map kind names → AreDelayPairs rule lat names edges → AreLeft rule lat names limit w
    → HasNone edges kinds w → IsBound rule lat block (limit + 1)
refuted rule lat block names limit edges kinds w named kinds_are pairs left none =
    bound_raised rule lat block limit edges w (subst (λ os. AreDelayPairs rule lat os edges) named pairs)
    (subst (λ os. AreLeft rule lat os limit w) named left)
    (subst (λ ks. HasNone edges ks w) (kinds_are ∙ ap (map kind) named) none)

-- a shorter schedule
pub with_schedule : (rule : MemoryRule) (lat : Latencies) (block : List Op) (o : Optimum) (s : Table) → IsOptimumOf rule lat block o
    → IsLawfulBy rule lat block s → cycles_of lat s ≤ cycles_of lat o.schedule
    → IsOptimumOf rule lat block (record { schedule = s; bound = o.bound })
with_schedule rule lat block o s was lawful fewer = record {
  lawful = lawful;
  outcome = λ memory. ruled_same_outcome rule lat block s.ops s.rows memory lawful;
  orders = λ h t greedy. let short = was.orders h t greedy in omega arith;
  bound = was.bound;
  least = was.least;
}

-- a higher bound
pub with_bound : (rule : MemoryRule) (lat : Latencies) (block : List Op) (o : Optimum) (n : ℕ) → IsOptimumOf rule lat block o
    → IsBound rule lat block n → o.bound ≤ n → IsOptimumOf rule lat block (record { schedule = o.schedule; bound = n })
with_bound rule lat block o n was bound more = grind arith
