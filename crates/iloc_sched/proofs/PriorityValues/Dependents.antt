-- Which operations depend on which, step by step; for `Heuristic::Descendants`.
use Rattle.iloc_sched.proofs.Common.{◌≡◌, ℕ, zero, suc, ◌+◌, ◌<◌, ◌≤◌, Bool, true, ◌&&◌, ◌||◌, ◌⊎◌, List, [], ◌∷◌, length, nat_lt, ◌==◌, sym, refl, inl, true≢false, arith, ltb-true, lt-ltb, eq-eqb, eqb-true, and_from, and_parts, or_cases, range_with_len, Op, Latencies, any_at, contains_from, from_any, from_range, in_from, in_range_from, Counts, IsDelayPairWhere, depends_on_where, depends_where, waits_for_where, In, Reaches}

either : (a b : Bool) → (a ≡ true) ⊎ (b ≡ true) → (a || b) ≡ true
either a b one = grind (arith, true≢false)

some_delay : (ds : List ℕ) → nat_lt 0 (length ds) ≡ true → (d : ℕ) × In ds d
some_delay [] some = absurd (true≢false (sym some))
some_delay (d ∷ ds) some = (d, inl refl)

pub pair_waits : (counts : Counts) (lat : Latencies) (ops : List Op) (i k d : ℕ) → IsDelayPairWhere counts lat ops i k d → waits_for_where counts lat ops i k ≡ true
pair_waits counts lat ops i k d pair = grind (arith, and_from, in_from, lt-ltb)

pub waits_pair : (counts : Counts) (lat : Latencies) (ops : List Op) (i k : ℕ) → k < length ops → waits_for_where counts lat ops i k ≡ true
    → (d : ℕ) × IsDelayPairWhere counts lat ops i k d
waits_pair counts lat ops i k within waits = grind (arith, and_parts, contains_from, ltb-true, some_delay)

-- operation j is operation k, or at most n delays lead there
abbrev ReachesBy : Counts → Latencies → List Op → ℕ → ℕ → ℕ → Type 0
ReachesBy counts lat ops n k j = (k ≡ j) ⊎ (depends_where counts lat ops n k j ≡ true)

one_more : (counts : Counts) (lat : Latencies) (ops : List Op) (n i k j d : ℕ) → IsDelayPairWhere counts lat ops i k d → ReachesBy counts lat ops n k j
    → depends_where counts lat ops (suc n) i j ≡ true
one_more counts lat ops n i k j d pair rest =
    any_at (λ m. waits_for_where counts lat ops i m && ((m == j) || depends_where counts lat ops n m j)) (range_with_len 0 (length ops)) k
    (in_range_from 0 (length ops) k (omega arith) (let within : k < length ops = pair.within in omega arith))
    (and_from (waits_for_where counts lat ops i k) ((k == j) || depends_where counts lat ops n k j) (pair_waits counts lat ops i k d pair)
    (grind (arith, either, eq-eqb)))

-- the first delay of a chain
record Begins (counts : Counts) (lat : Latencies) (ops : List Op) (n i j : ℕ) : Type 0 where
  to : ℕ
  delay : ℕ
  pair : IsDelayPairWhere counts lat ops i to delay
  rest : ReachesBy counts lat ops n to j

one_less : (counts : Counts) (lat : Latencies) (ops : List Op) (n i j : ℕ) → depends_where counts lat ops (suc n) i j ≡ true → Begins counts lat ops n i j
one_less counts lat ops n i j is = grind (arith, and_parts, eqb-true, from_any, from_range 0 (length ops), or_cases, waits_pair counts lat ops i)

pub later : (counts : Counts) (lat : Latencies) (ops : List Op) (n i j : ℕ) → depends_where counts lat ops n i j ≡ true → (i < j) × (j < length ops)
later counts lat ops zero i j is = absurd (true≢false (sym is))
later counts lat ops (suc n) i j is = grind (arith, one_less counts lat ops n i j is, later counts lat ops n)

-- as many delays as there are operations between are enough
enough : (counts : Counts) (lat : Latencies) (ops : List Op) (n m i j : ℕ) → depends_where counts lat ops n i j ≡ true → j ≤ i + m
    → depends_where counts lat ops m i j ≡ true
enough counts lat ops zero m i j is few = absurd (true≢false (sym is))
enough counts lat ops (suc n) zero i j is few = grind (arith, later counts lat ops (suc n) i j is)
enough counts lat ops (suc n) (suc m) i j is few =
    let first = one_less counts lat ops n i j is in
    one_more counts lat ops m i first.to j first.delay first.pair (grind (arith, enough counts lat ops n m first.to j))

-- what depends on what waits for operation i depends on i
pub by_pair : (counts : Counts) (lat : Latencies) (ops : List Op) (i k j d : ℕ) → IsDelayPairWhere counts lat ops i k d → Reaches counts lat ops k j
    → depends_on_where counts lat ops i j ≡ true
by_pair counts lat ops i k j d pair rest =
    let is : depends_where counts lat ops (suc (length ops)) i j ≡ true = one_more counts lat ops (length ops) i k j d pair rest in
    grind (arith, enough, later)

-- and the other way round
pub record FirstPair (counts : Counts) (lat : Latencies) (ops : List Op) (i j : ℕ) : Type 0 where
  pub to : ℕ
  pub delay : ℕ
  pub pair : IsDelayPairWhere counts lat ops i to delay
  pub rest : Reaches counts lat ops to j

first_of : (counts : Counts) (lat : Latencies) (ops : List Op) (n i j : ℕ) → depends_where counts lat ops n i j ≡ true → FirstPair counts lat ops i j
first_of counts lat ops zero i j is = absurd (true≢false (sym is))
first_of counts lat ops (suc n) i j is =
    grind (arith, enough counts lat ops n (length ops), later counts lat ops (suc n) i j is, one_less counts lat ops n i j is)

pub first_pair : (counts : Counts) (lat : Latencies) (ops : List Op) (i j : ℕ) → depends_on_where counts lat ops i j ≡ true → FirstPair counts lat ops i j
first_pair counts lat ops i j is = first_of counts lat ops (length ops) i j is

pub depends_within : (counts : Counts) (lat : Latencies) (ops : List Op) (i j : ℕ) → depends_on_where counts lat ops i j ≡ true → j < length ops
depends_within counts lat ops i j is = (later counts lat ops (length ops) i j is).1
