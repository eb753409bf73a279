-- How early operations are issued at least, by their tails; for `laws::least_bounds_the_cycles`.
use Rattle.iloc_bound.proofs.Common.{◌≡◌, ℕ, zero, suc, ◌+◌, ◌-◌, ◌*◌, ◌/◌, ◌<◌, ◌≤◌, max, Bool, true, cond, ◌&&◌, List, [], ◌∷◌, ◌++◌, map, length, nat_le, slice_index, fold, count_by, filter, refl, ap, ◌∙◌, inl, inr, add-one, arith, and_from, and_parts, cases_lt, nat_tests, length-filter, range_with_len, Op, op_at, is_load, is_store, kind, latency, IsTable, issue_cycle, Kind, Latencies, Row, contains_from, from_map, from_range, in_filter, in_left, in_right, count_by-cons, count_some, early_issued, issued_early, numbers_before, behind, count_from, cycles_from, load_tails, needed, tail, tails, In, Crowd, between}
use Rattle.std.proofs.Math.Nat.{mul-suc, mul-div-le, mul-le-mul_left}
use Rattle.iloc_meaning.proofs.Cases.{by_bool}
use Rattle.iloc_timed.proofs.WholeRuns.{short_latency}
use Rattle.iloc_rules.specs.Delays.{when, delays, IsDelayPair}
use Rattle.iloc_rules.specs.Priority.{reaches}
use Rattle.iloc_rules.proofs.Basics.Maxima.{fold_max_reached}
use Rattle.iloc_rules.proofs.DelayPairs.DelayBounds.{in_when, short_delay}
use Rattle.iloc_rules.proofs.PriorityValues.Longest.{Reached, from_reaches, outer_pair}
use Rattle.iloc_bound.proofs.Counting.{count-append, count-never, count-mono, among, in_among, among-short, at_least, is_at_least}
use Rattle.iloc_bound.proofs.RowsHold.{Holds, is_kind}

-- whether operation i is a load
abbrev pub loads_at : List Op → ℕ → Bool
loads_at ops i = is_load (kind (op_at ops i))

-- so many rows hold m operations: else width * (r + 1) would be at most m - 1
rows_hold : (width m room : ℕ) → 0 < width → 0 < m → m ≤ width * room → (m - 1) / width < room
rows_hold width m zero some any few = absurd (omega arith)
rows_hold width m (suc r) some any few = grind (arith, add-one, cases_lt, mul-div-le, mul-le-mul_left, mul-suc)

is_between : (a c x : ℕ) → between a c x ≡ true → (a ≤ x) × (x < c)
is_between a c x h = grind (arith, and_parts, at_least, nat_tests)

pub in_between : (a c x : ℕ) → a ≤ x → x < c → between a c x ≡ true
in_between a c x low high = grind (arith, and_from, nat_tests)

-- Those that are issued in cycle a or later need no more than the cycles, all counted from cycle z.
pub key : (width : ℕ) (p q : ℕ → Bool) (n : ℕ) (t f : ℕ → ℕ) (z a limit : ℕ) (xs : List ℕ) → 0 < width → Crowd width p n t
    → ((i : ℕ) → i < n → q i ≡ true → (p i ≡ true) × (z + a ≤ t i) × (t i + f i ≤ limit))
    → ((b : ℕ) → count_from xs b ≤ count_by (λ i. q i && nat_le b (f i)) (range_with_len 0 n)) → z ≤ limit
    → z + needed a width xs ≤ limit
key width p q n t f z a limit xs some crowd each counted start =
    elim (fold_max_reached 0 (map (cycles_from a width xs) xs)) [
      | inl none ↦ omega arith
      | inr there ↦
          (let found = from_map (cycles_from a width xs) xs (needed a width xs) there in
          let b : ℕ = found.0 in
          let c : ℕ = limit + 1 - b in
          let any : 1 ≤ count_from xs b = count_some (λ x. nat_le b x) xs b found.1 (is_at_least b b (omega arith)) in
          let inside = count-mono (λ i. q i && nat_le b (f i)) (λ i. p i && between (z + a) c (t i)) (range_with_len 0 n)
          (λ i inn passes.
          let parts = and_parts (q i) (nat_le b (f i)) passes in
          let its = each i (omega (arith, (from_range 0 n i inn).1)) parts.0 in
          let reach = at_least b (f i) parts.1 in
          and_from (p i) (between (z + a) c (t i)) its.0
          (in_between (z + a) c (t i) its.1 (omega (arith, its.2)))) in
          let rows = rows_hold width (count_from xs b) (c - (z + a)) some any
          (omega (arith, counted b, inside, crowd (z + a) c)) in
          let is = found.2 in
          omega arith)
    ]

-- Rows

-- of these operations so many are issued from cycle a to before cycle c
numbers_few : (test : Kind → Bool) (width : ℕ) (ops : List Op) (rows : List Row) → IsTable ops rows
    → Holds test width ops → (a c : ℕ)
    → count_by (λ i. is_kind test ops i && nat_le a (issue_cycle rows i)) (numbers_before rows c) ≤ width * (c - a)
numbers_few test width ops rows table holds a zero = omega arith
numbers_few test width ops rows table holds a (suc c) =
    grind (
      arith,
      and_parts,
      at_least a,
      count-append,
      count-mono,
      count-never,
      issued_early ops rows table (suc c),
      mul-suc width (c - a),
      table.units c,
      numbers_few test width ops rows table holds a c,
    )

pub crowd_of : (test : Kind → Bool) (width : ℕ) (ops : List Op) (rows : List Row) → IsTable ops rows
    → Holds test width ops → Crowd width (is_kind test ops) (length ops) (issue_cycle rows)
crowd_of test width ops rows table holds a c =
    let p : ℕ → Bool = λ i. is_kind test ops i && nat_le a (issue_cycle rows i) in
    let q : ℕ → Bool = λ i. is_kind test ops i && between a c (issue_cycle rows i) in
    let range : List ℕ = range_with_len 0 (length ops) in
    let early : List ℕ = filter p (numbers_before rows c) in
    let inside : count_by q range ≤ count_by (among early) range =
    grind (arith, and_from, and_parts, count-mono, early_issued, from_range, in_among, in_filter, is_between) in
    let few : count_by (among early) range ≤ length early = among-short early 0 (length ops) in
    let size : length early ≡ count_by p (numbers_before rows c) = length-filter p (numbers_before rows c) in
    let most : count_by p (numbers_before rows c) ≤ width * (c - a) =
    numbers_few test width ops rows table holds a c in
    omega arith

-- Tails

-- what is known of the cycles of issue
pub record Fits (lat : Latencies) (ops : List Op) (limit : ℕ) (t : ℕ → ℕ) : Type 0 where
  pub ends : (i : ℕ) → i < length ops → t i + latency lat (op_at ops i) ≤ limit
  pub waits : (i j d : ℕ) → IsDelayPair lat ops i j d → t i + d ≤ t j
  pub crowd : Crowd 1 (loads_at ops) (length ops) t

count_later : (p : ℕ → Bool) (a n : ℕ)
    → count_by (λ i. p (suc i)) (range_with_len a n) ≡ count_by p (range_with_len (a + 1) n)
count_later p a zero = refl
count_later p a (suc n) =
    let here = count_by-cons (λ i. p (suc i)) a (range_with_len (a + 1) n) in
    grind (arith, add-one, count_by-cons, count_later p (a + 1) n)

fits_later : (lat : Latencies) (op : Op) (later : List Op) (limit : ℕ) (t : ℕ → ℕ) → Fits lat (op ∷ later) limit t
    → Fits lat later limit (λ i. t (suc i))
fits_later lat op later limit t f = record {
  ends = λ i below. f.ends (suc i) (omega arith);
  waits = λ i j d pair. f.waits (suc i) (suc j) d (outer_pair lat op later i j d pair);
  crowd = λ a c.
      let p : ℕ → Bool = λ i. loads_at (op ∷ later) i && between a c (t i) in
      let whole : count_by p (range_with_len 0 (suc (length later))) ≤ 1 * (c - a) = f.crowd a c in
      let first = count_by-cons p 0 (range_with_len (0 + 1) (length later)) in
      let rest : count_by (λ i. p (suc i)) (range_with_len 0 (length later))
      ≡ count_by p (range_with_len (0 + 1) (length later)) = count_later p 0 (length later) in
      omega arith;
}

-- each tail of a load is that of its number
loads_counted : (ops : List Op) (ts : List ℕ) (b : ℕ) → count_from (load_tails ops ts) b
    ≤ count_by (λ i. loads_at ops i && nat_le b (slice_index ts i)) (range_with_len 0 (length ops))
loads_counted [] ts b = omega arith
loads_counted (op ∷ later) [] b = omega arith
loads_counted (op ∷ later) (x ∷ xs) b = by_bool (is_store (kind op)) (λ stores. rw stores (omega arith)) (λ other.
    let p : ℕ → Bool = λ i. loads_at (op ∷ later) i && nat_le b (slice_index (x ∷ xs) i) in
    let rest = loads_counted later xs b in
    let first = count_by-cons p 0 (range_with_len (0 + 1) (length later)) in
    let shift = count_later p 0 (length later) in
    let same : load_tails (op ∷ later) (x ∷ xs) ≡ load_tails later xs ++ when (is_load (kind op)) x = rw other refl in
    let sum = ap (λ ys. count_from ys b) same ∙ count-append (λ y. nat_le b y) (load_tails later xs) (when (is_load (kind op)) x) in
    let one = load_one (is_load (kind op)) in
    omega arith)
  where
    load_one : (l : Bool) → count_from (when l x) b ≤ cond {A = ℕ} (l && nat_le b x) 1 0
    load_one l = grind (arith, count_by-cons)

store_load : (lat : Latencies) (i j : Op) → is_store (kind i) ≡ true → is_load (kind j) ≡ true
    → In (delays lat i j) (latency lat i)
store_load lat i j stores loads = grind (arith, in_left, in_right, in_when)

-- the first operation, where the later ones have their tails left
tail_first : (lat : Latencies) (op : Op) (later : List Op) (limit : ℕ) (t : ℕ → ℕ) → Fits lat (op ∷ later) limit t
    → ((k : ℕ) → k < length later → t (suc k) + tail lat later k ≤ limit) → t 0 + tail lat (op ∷ later) 0 ≤ limit
tail_first lat op later limit t f left =
    let own : t 0 + fold max (latency lat op) (reaches lat op later (tails lat later)) ≤ limit =
    grind (arith, by_pair, fold_max_reached, from_reaches) in
    grind (arith, by_loads)
  where
    by_pair : Reached lat op later (tails lat later) (fold max (latency lat op) (reaches lat op later (tails lat later)))
        → t 0 + fold max (latency lat op) (reaches lat op later (tails lat later)) ≤ limit
    by_pair r =
        let under : r.to < length later = r.within in
        let wait : t 0 + r.delay ≤ t (suc r.to) = f.waits 0 (suc r.to) r.delay (record {
          order = omega arith;
          within = omega arith;
          delay = contains_from (delays lat op (op_at later r.to)) r.delay r.there;
        }) in
        let rest : t (suc r.to) + tail lat later r.to ≤ limit = left r.to under in
        let is = r.is in
        omega arith

    by_loads : is_store (kind op) ≡ true → t 0 + behind lat op later (tails lat later) ≤ limit
    by_loads stores =
        let same : behind lat op later (tails lat later) ≡ needed (latency lat op) 1 (load_tails later (tails lat later)) =
        rw stores refl in
        let bound = key 1 (loads_at later) (loads_at later) (length later) (λ k. t (suc k)) (slice_index (tails lat later))
        (t 0) (latency lat op) limit (load_tails later (tails lat later)) (omega arith)
        (fits_later lat op later limit t f).crowd (λ i under loads. (
          loads,
          f.waits 0 (suc i) (latency lat op) (record {
            order = omega arith;
            within = omega arith;
            delay = contains_from (delays lat op (op_at later i)) (latency lat op)
                (store_load lat op (op_at later i) stores loads);
          }),
          left i under,
        )) (loads_counted later (tails lat later)) (omega (arith, f.ends 0 (omega arith))) in
        omega arith

-- an operation is issued so early that its tail is left
pub tail_within : (lat : Latencies) (ops : List Op) (limit : ℕ) (t : ℕ → ℕ) → Fits lat ops limit t → (i : ℕ)
    → i < length ops → t i + tail lat ops i ≤ limit
tail_within lat [] limit t f i below = absurd (omega arith)
tail_within lat (op ∷ later) limit t f (suc i) below =
    tail_within lat later limit (λ k. t (suc k)) (fits_later lat op later limit t f) i (omega arith)
tail_within lat (op ∷ later) limit t f zero below = tail_first lat op later limit t f
    (λ k under. tail_within lat later limit (λ k. t (suc k)) (fits_later lat op later limit t f) k under)

-- The schedule that issues an operation every 16 cycles

slow_few : (p : ℕ → Bool) (a c k n : ℕ) → count_by (λ i. p i && between a c (16 * i)) (range_with_len k n) ≤ c - max a (16 * k)
slow_few p a c k zero = omega arith
slow_few p a c k (suc n) =
    let rest = slow_few p a c (k + 1) n in
    let here = count_by-cons (λ i. p i && between a c (16 * i)) k (range_with_len (k + 1) n) in
    grind (arith, and_parts, is_between)

slow_fits : (lat : Latencies) (ops : List Op) → Fits lat ops (16 * length ops) (λ i. 16 * i)
slow_fits lat ops = record {
  ends = λ i below. omega (arith, short_latency lat (kind (op_at ops i)));
  waits = λ i j d pair. omega (arith, pair.order, short_delay lat (op_at ops i) (op_at ops j) d pair.delay);
  crowd = λ a c. omega (arith, slow_few (loads_at ops) a c 0 (length ops));
}

-- so a tail is at most 16 cycles for each operation
pub tail_most : (lat : Latencies) (ops : List Op) (i : ℕ) → i < length ops → tail lat ops i ≤ 16 * length ops
tail_most lat ops i below =
    omega (arith, tail_within lat ops (16 * length ops) (λ k. 16 * k) (slow_fits lat ops) i below)
