-- The delay pairs of a block in order.
use Rattle.std.specs.Prelude.{ℕ, zero, suc, ◌≡◌, ◌<◌, ◌⊎◌, ◌==◌, nat_lt, if◌then◌else◌, List, [], ◌∷◌, ◌++◌, length, map}
use Rattle.iloc_ops.specs.declared.op.Op.{Op}
use Rattle.iloc_meaning.specs.Trace.{op_at}
use Rattle.iloc_timed.specs.declared.latencies.Latencies.{Latencies}
use Rattle.iloc_rules.specs.declared.delay_pairs.Pair.{Pair}
use Rattle.iloc_rules.specs.Delays.{delays}

-- by the later operation, then by the earlier one, then by the delay
abbrev pub ComesBefore : Pair → Pair → Type 0
ComesBefore p q =
    (p.second < q.second)
    ⊎ (p.second ≡ q.second) × ((p.first < q.first) ⊎ (p.first ≡ q.first) × (p.delay < q.delay))

-- a rising list with d in its place, which stays as it is where d is in it
abbrev pub with_delay : ℕ → List ℕ → List ℕ
with_delay d [] = d ∷ []
with_delay d (e ∷ rest) = if nat_lt d e then d ∷ e ∷ rest else (if d == e then e ∷ rest else e ∷ with_delay d rest)

-- the delays of a list, rising, each once
abbrev pub rising : List ℕ → List ℕ
rising [] = []
rising (d ∷ ds) = with_delay d (rising ds)

-- the pairs from operation `i` to operation `j` with the delays `ds`
abbrev pub with_delays : ℕ → ℕ → List ℕ → List Pair
with_delays i j ds = map (λ d. record { first = i; second = j; delay = d }) ds

-- the pairs to operation j from the operations before operation i
abbrev pub pairs_from : Latencies → List Op → ℕ → ℕ → List Pair
pairs_from lat ops j zero = []
pairs_from lat ops j (suc i) =
    pairs_from lat ops j i ++ with_delays i j (rising (delays lat (op_at ops i) (op_at ops j)))

-- the pairs to the operations before operation j
abbrev pub pairs_before : Latencies → List Op → ℕ → List Pair
pairs_before lat ops zero = []
pairs_before lat ops (suc j) = pairs_before lat ops j ++ pairs_from lat ops j j

-- all pairs
abbrev pub pairs : Latencies → List Op → List Pair
pairs lat ops = pairs_before lat ops (length ops)
