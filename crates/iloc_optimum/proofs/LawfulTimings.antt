-- The cycles of issue in a lawful schedule are a timing within the first windows: `laws::lawful_schedules_are_timings`,
-- `laws::nothing_left_raises_the_bound`.
use Rattle.iloc_optimum.proofs.Common.{◌≡◌, ℕ, zero, suc, ◌+◌, ◌-◌, ◌*◌, ◌<◌, ◌≤◌, ◌&&◌, List, map, length, get_or, replicate, count_by, sym, ap, ◌∙◌, subst, inl, inr, arith, and_from, and_parts, cases_lt, get_or-map, length-map, All-weaker, range_with_len, Op, cycles, kind, Latencies, Row, renamed, counts_by, MemoryRule, Edge, tail_within_under, crowd_of, length-tails_under, tails_under, shares, width, Share, AreDelayPairs, AreLeft, LawfulSchedulesAreTimings, NothingLeftRaisesTheBound, ReachedBoundsAreOptimal, Crowd, IsTiming, Within, belongs, between, Windows}
use Rattle.std.proofs.Math.ListN as lists
use Rattle.iloc_ops.specs.declared.op.Op.TheVariants.{Nop}
use Rattle.iloc_meaning.specs.Trace.{op_at}
use Rattle.iloc_timed.specs.Rows.{issue_cycle}
use Rattle.iloc_rules.specs.Delays.{IsDelayPairWhere}
use Rattle.iloc_rules.specs.Lawful.{IsLawfulWhere}
use Rattle.iloc_bound.proofs.RowsHold.{Holds, holds_memory, holds_products, holds_outputs, holds_all}
use Rattle.iloc_optimum.proofs.FullCycles.{count_grows}

holds_of : (s : Share) (ops : List Op) → Holds (shares s) (width s) ops
holds_of s ops = grind (arith, holds_memory, holds_products, holds_outputs, holds_all)

-- the share of an operation by the kinds of all is that by its own kind
same_share : (ops : List Op) (s : Share) (i : ℕ) → belongs (map kind ops) s i ≡ shares s (kind (op_at ops i))
same_share ops s i = ap (shares s) (lists.get_or-map kind ops i Nop)

crowd_by_kinds : (ops : List Op) (s : Share) (t : ℕ → ℕ)
    → ((a c : ℕ) → count_by (λ i. shares s (kind (op_at ops i)) && between a c (t i)) (range_with_len 0 (length ops)) ≤ width s * (c - a))
    → Crowd (width s) (belongs (map kind ops) s) (length (map kind ops)) t
crowd_by_kinds ops s t crowd a c = grind (arith, count_grows, and_parts, and_from, same_share, length-map)

pub timings : LawfulSchedulesAreTimings
timings rule lat block ops rows edges lawful pairs = record {
  waits = All-weaker (λ (e : Edge). IsDelayPairWhere (counts_by rule ops) lat ops e.from e.to e.delay)
      (λ (e : Edge). issue_cycle rows e.from + e.delay ≤ issue_cycle rows e.to)
      (λ e pair. lawful.waits e.from e.to e.delay pair) edges pairs;
  crowds = λ s. crowd_by_kinds ops s (issue_cycle rows)
      (crowd_of (shares s) (width s) ops rows lawful.table (holds_of s ops));
}

zero_at : (n i m : ℕ) → get_or (replicate n 0) i 0 ≤ m
zero_at zero i m = omega arith
zero_at (suc n) zero m = omega arith
zero_at (suc n) (suc i) m = zero_at n i m

-- such a schedule of so many cycles is within the windows that they leave
within_root : (rule : MemoryRule) (lat : Latencies) (block ops : List Op) (rows : List Row) (limit : ℕ) (w : Windows)
    → AreLeft rule lat ops limit w → IsLawfulWhere (counts_by rule ops) lat block ops rows → cycles lat ops rows ≤ limit
    → Within w.firsts.items w.lasts.items (issue_cycle rows)
within_root rule lat block ops rows limit w are_left lawful short =
    let t : ℕ → ℕ = issue_cycle rows in
    let tails : List ℕ = tails_under rule lat ops in
    let left : ℕ → ℕ = λ tail. limit - tail in
    let size : length tails ≡ length ops = length-tails_under rule lat ops in
    let last_size : length w.lasts.items ≡ length ops = ap length are_left.1 ∙ (length-map tails left ∙ size) in
    record {
      from = λ i below. subst (λ fs. get_or fs i 0 ≤ t i) (sym are_left.0) (zero_at (length ops) i (t i));
      to = λ i below.
          let ends : t i + get_or tails i 0 ≤ cycles lat ops rows =
          tail_within_under rule lat ops rows lawful.table lawful.waits i (omega arith) in
          let there : i < length tails = omega arith in
          let value : get_or (map left tails) i 0 ≡ left (get_or tails i 0) = get_or-map left tails i 0 0 there in
          let high : t i ≤ get_or (map left tails) i 0 = omega arith in
          subst (λ ls. t i ≤ get_or ls i 0) (sym are_left.1) high;
    }

-- where there is nothing within those windows, each lawful schedule takes more cycles
pub bound_raised : NothingLeftRaisesTheBound
bound_raised rule lat block limit edges w pairs left none ops rows lawful =
    elim (cases_lt limit (cycles lat ops rows)) [
      | inl more ↦ omega arith
      | inr short ↦
          (let same : ops ≡ renamed block = lawful.names in
          absurd (none (issue_cycle rows)
          (subst (λ os. IsTiming edges (map kind os) (issue_cycle rows)) same
          (timings rule lat block ops rows edges lawful (subst (λ os. AreDelayPairs rule lat os edges) (sym same) pairs)))
          (within_root rule lat block ops rows limit w (subst (λ os. AreLeft rule lat os limit w) (sym same) left) lawful short)))
    ]

pub reached : ReachedBoundsAreOptimal
reached rule lat block ops rows n lawful bound is = grind arith
