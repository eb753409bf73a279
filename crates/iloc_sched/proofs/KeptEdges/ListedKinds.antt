-- The kinds of operations, read from their list.
use Rattle.iloc_sched.proofs.Common.{◌≡◌, ℕ, ◌<◌, List, [], ◌∷◌, map, length, get_or, refl, ap, ◌∙◌, get_or-map, Op, Nop, op_at, kind, latency, latency_of, Kind, Latencies}

-- place j of the list has the kind of operation j
pub kind_listed : (ops : List Op) (kinds : List Kind) (j : ℕ) (d : Kind) → kinds ≡ map kind ops → j < length ops
    → get_or kinds j d ≡ kind (op_at ops j)
kind_listed ops kinds j d is there = ap (λ ks. get_or ks j d) is ∙ get_or-map kind ops j Nop d there

-- latencies by the list of kinds are those of the operations
pub latencies_by_kinds : (lat : Latencies) (ops : List Op) → map (latency_of lat) (map kind ops) ≡ map (latency lat) ops
latencies_by_kinds lat [] = refl
latencies_by_kinds lat (op ∷ ops) = ap (λ rest. latency lat op ∷ rest) (latencies_by_kinds lat ops)

-- latencies by a list of kinds
pub listed : (lat : Latencies) (ops : List Op) (kinds : List Kind) (own : List ℕ) → kinds ≡ map kind ops
    → own ≡ map (latency_of lat) kinds → own ≡ map (latency lat) ops
listed lat ops kinds own kinds_are own_is =
    own_is ∙ ap (map (latency_of lat)) kinds_are ∙ latencies_by_kinds lat ops

-- place i of the list of latencies has that of operation i
pub latency_listed : (lat : Latencies) (ops : List Op) (own : List ℕ) (i d : ℕ) → own ≡ map (latency lat) ops
    → i < length ops → get_or own i d ≡ latency lat (op_at ops i)
latency_listed lat ops own i d is there = ap (λ xs. get_or xs i d) is ∙ get_or-map (latency lat) ops i Nop d there
