-- Latencies that are raised along the near pairs and by the rule of stores, the last first, become the tails; for `fill_tails`.
use Rattle.iloc_bound.proofs.Common.{◌≡◌, ℕ, ◌+◌, ◌*◌, ◌<◌, ◌≤◌, max, List, map, length, get_or, set, All, Any, sym, ap, ◌∙◌, subst, inl, inr, arith, length-set, ext_get_or, get_or-map, get_or_default, get_or_read, length-map, Op, op_at, latency, Latencies, tail, tails, Edge, IsTailed, chain_tail}
use Rattle.iloc_sched.specs.Graph.Near.{IsNearPair}
use Rattle.iloc_sched.proofs.Basics.Cases.{by_eq}
use Rattle.iloc_sched.proofs.KeptEdges.FarPairs.{all_are_kept}
use Rattle.iloc_sched.proofs.PriorityValues.Chains.{away, grown, here}
use Rattle.iloc_bound.proofs.TailParts.{is_tail, length-tails}
use Rattle.iloc_bound.proofs.TailBound.{tail_most}

module _ (lat : Latencies) (ops : List Op) where
  -- before any is there
  pub none_tailed : (own : List ℕ) → own ≡ map (latency lat) ops → IsTailed lat ops own (length ops) (length ops)
  none_tailed own own_is = record {
    size = ap length own_is ∙ length-map ops (latency lat);
    own = λ i below. omega (arith, value i below);
    upper = λ i low below. omega (arith, value i below, (is_tail lat ops).own i below);
    done = λ i high below. absurd (omega arith);
    over = λ i o d high pair. absurd (omega (arith, pair.within));
  }
    where
      value : (i : ℕ) → i < length ops → get_or own i 0 ≡ latency lat (op_at ops i)
      value i below = grind (arith, get_or-map)

  pub tails_found : (found : List ℕ) (k : ℕ) → IsTailed lat ops found 0 k → found ≡ tails lat ops
  tails_found found k tailed =
      let size : length (tails lat ops) ≡ length ops = length-tails lat ops in
      ext_get_or 0 found (tails lat ops) (tailed.size ∙ sym size)
      (λ i below. tailed.done i (omega arith) (omega (arith, tailed.size)))

module _ (lat : Latencies) (ops : List Op) (found : List ℕ) where
  pub tailed_small : (j k i : ℕ) → IsTailed lat ops found j k → i < length ops → get_or found i 0 ≤ 16 * length ops
  tailed_small j k i tailed below =
      let most = tail_most lat ops i below in
      let whole = (is_tail lat ops).whole i below in
      grind arith

  -- an edge into operation j, whose tail is there
  module _ (j : ℕ) (tailed : IsTailed lat ops found j (j + 1)) (edge : Edge)
      (near : IsNearPair lat ops edge.from j edge.delay) where
    through_chain : edge.delay + get_or found j 0 ≤ chain_tail lat ops edge.from
    through_chain =
        let pair = (is_tail lat ops).pairs edge.from j edge.delay
        (record { order = near.order; within = near.within; delay = near.delay }) in
        let there = tailed.done j (omega arith) near.within in
        omega arith

    pub through_small : edge.delay + get_or found j 0 ≤ 16 * length ops
    through_small =
        let order : edge.from < j = near.order in
        let below : edge.from < length ops = omega (arith, near.within) in
        omega (arith, through_chain, (is_tail lat ops).whole edge.from below, tail_most lat ops edge.from below)

    module _ (first second most : ℕ) (first_is : first ≡ get_or found edge.from first)
        (second_is : second ≡ get_or found j second) (most_is : most ≡ max first (edge.delay + second)) where
      order : edge.from < j
      order = near.order

      within : j < length found
      within = omega (arith, near.within, tailed.size)

      value : most ≡ max (get_or found edge.from 0) (edge.delay + get_or found j 0)
      value =
          let old : first ≡ get_or found edge.from 0 = get_or_read found edge.from first (omega (arith, order, within)) first_is 0 in
          let read : second ≡ get_or found j 0 = get_or_read found j second within second_is 0 in
          grind arith

      up : get_or found edge.from 0 ≤ most
      up = omega (arith, value)

      there : edge.from < length found
      there = omega (arith, order, within)

      -- its source is raised
      pub raised : IsTailed lat ops (set found edge.from most) j (j + 1)
      raised =
          let small = through_chain in
          let is_value = value in
          let early = order in
          record {
            size = length-set found edge.from most ∙ tailed.size;
            own = λ i below. omega (arith, tailed.own i below, grown found edge.from most there up i);
            upper = λ i low below. by_eq i edge.from
                (λ same. rw same (omega (arith, here found edge.from most there up, tailed.upper edge.from order (omega (arith, there, tailed.size)))))
                (λ apart. omega (arith, away found edge.from most there up i apart, tailed.upper i low below));
            done = λ i high below. away found edge.from most there up i (λ same. absurd (omega arith)) ∙ tailed.done i high below;
            over = λ i o d high pair.
                omega (
                  arith,
                  away found edge.from most there up o (λ same. absurd (omega arith)),
                  tailed.over i o d high pair,
                  grown found edge.from most there up i,
                );
          }

      -- and so it and the edges before it are kept
      pub kept_more : (edges : List Edge) (n : ℕ) (none : Edge) → edge ≡ get_or edges n none → n < length edges
          → ((k : ℕ) (other : Edge) → k < n
          → (get_or edges k other).delay + get_or found j 0 ≤ get_or found (get_or edges k other).from 0)
          → (k : ℕ) (other : Edge) → k < n + 1
          → (get_or edges k other).delay + get_or (set found edge.from most) j 0
          ≤ get_or (set found edge.from most) (get_or edges k other).from 0
      kept_more edges n none is_edge inside kept k other low =
          let same : get_or (set found edge.from most) j 0 ≡ get_or found j 0 =
          away found edge.from most there up j (λ same. absurd (omega (arith, order))) in
          by_eq k n
          (λ now.
          let this : get_or edges k other ≡ edge = ap (λ x. get_or edges x other) now ∙ get_or_default edges n other none inside ∙ sym is_edge in
          rw this (omega (arith, same, here found edge.from most there up, value)))
          (λ before. omega (arith, same, kept k other (omega arith), grown found edge.from most there up (get_or edges k other).from))

  -- the pairs into operation j are kept, where each has an edge that is
  pub all_raised : (j : ℕ) (edges : List Edge) → IsTailed lat ops found j (j + 1)
      → ((i d : ℕ) → IsNearPair lat ops i j d → Any (λ (edge : Edge). (edge.from ≡ i) × (d ≤ edge.delay)) edges)
      → All (λ (edge : Edge). edge.delay + get_or found j 0 ≤ get_or found edge.from 0) edges
      → IsTailed lat ops found j j
  all_raised j edges tailed all kept = record {
    size = tailed.size;
    own = tailed.own;
    upper = tailed.upper;
    done = tailed.done;
    over = λ i o d high pair. by_eq o j
        (λ same.
        let some = all i d (subst (λ x. IsNearPair lat ops i x d) same pair) in
        let held = subst (λ (edge : Edge). edge.delay + get_or found j 0 ≤ get_or found edge.from 0) some.3
        (kept some.0 some.1 some.2) in
        let over = subst (λ n. some.1.delay + get_or found j 0 ≤ get_or found n 0) some.4.0 held in
        rw same (omega (arith, some.4.1)))
        (λ apart. tailed.over i o d (omega arith) pair);
  }

  module _ (j : ℕ) (tailed : IsTailed lat ops found (j + 1) (j + 1)) (below : j < length ops) where
    -- the number of operation j says what its delays leave, once the pairs into all later operations are kept
    pub chain_found : get_or found j 0 ≡ chain_tail lat ops j
    chain_found =
        let upper = tailed.upper j (omega arith) below in
        elim ((is_tail lat ops).reached j below) [
          | inl alone ↦ omega (arith, tailed.own j below, alone)
          | inr long ↦
              let over = all_are_kept lat ops (λ n. 0) (λ n. get_or found n 0) j (λ i o d high pair near.
              let order : i < o = pair.order in
              let kept = tailed.over i o d (omega arith)
              (record { order = pair.order; within = pair.within; delay = pair.delay; near = near }) in
              omega arith) j long.0 long.1 (omega arith) long.2 in
              let done = tailed.done long.0 (omega (arith, long.2.order)) long.2.within in
              omega (arith, long.3)
        ]

    -- operation j has its tail
    pub tail_found : (v : ℕ) → v ≡ tail lat ops j → IsTailed lat ops (set found j v) j (j + 1)
    tail_found v v_is =
        let up : get_or found j 0 ≤ v = omega (arith, chain_found, (is_tail lat ops).whole j below) in
        let there : j < length found = omega (arith, tailed.size) in
        record {
          size = length-set found j v ∙ tailed.size;
          own = λ i inside. omega (arith, tailed.own i inside, grown found j v there up i);
          upper = λ i low inside.
              omega (arith, away found j v there up i (λ same. absurd (omega arith)), tailed.upper i (omega arith) inside);
          done = λ i high inside. by_eq i j
              (λ same. rw same (here found j v there up ∙ v_is))
              (λ apart. away found j v there up i apart ∙ tailed.done i (omega arith) inside);
          over = λ i o d high pair.
              omega (
                arith,
                away found j v there up o (λ same. absurd (omega arith)),
                tailed.over i o d high pair,
                grown found j v there up i,
              );
        }
