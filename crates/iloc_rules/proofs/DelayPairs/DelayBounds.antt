-- A delay is the latency of the earlier operation or 1; for priorities, bounds and the kept edges.
use Rattle.iloc_rules.proofs.Common.{◌≡◌, ℕ, ◌≤◌, Bool, true, ◌⊎◌, List, ◌++◌, Contains, refl, inl, arith, Op, short_latency, some_latency, kind, latency, latency_of, Kind, Latencies, delays, delays_where, keeps_order, reads_stored, when, In}
use Rattle.iloc_rules.proofs.Basics.Members.{in_from, from_append}

-- the delays by memory and outputs, from kind to kind
abbrev pub kind_delays : Latencies → Kind → Kind → List ℕ
kind_delays lat a b = when (reads_stored a b) (latency_of lat a) ++ when (keeps_order a b) 1

pub in_when : (b : Bool) (d : ℕ) → b ≡ true → In (when b d) d
in_when b d holds = rw holds (inl refl)

pub from_when : (b : Bool) (d e : ℕ) → In (when b d) e → (b ≡ true) × (d ≡ e)
from_when b d e there = grind arith

-- a delay is the latency of the first or 1, whether the two count or not
pub delay_is_where : (counts : Bool) (lat : Latencies) (i j : Op) (d : ℕ) → Contains (delays_where counts lat i j) d
    → (latency lat i ≡ d) ⊎ (1 ≡ d)
delay_is_where counts lat i j d there = grind (arith, from_append, from_when, in_from)

pub delay_at_least_where : (counts : Bool) (lat : Latencies) (i j : Op) (d : ℕ)
    → Contains (delays_where counts lat i j) d → 1 ≤ d
delay_at_least_where counts lat i j d there =
    grind (arith, delay_is_where counts lat i j d there, some_latency lat (kind i))

pub delay_at_most_where : (counts : Bool) (lat : Latencies) (i j : Op) (d : ℕ)
    → Contains (delays_where counts lat i j) d → d ≤ latency lat i
delay_at_most_where counts lat i j d there =
    grind (arith, delay_is_where counts lat i j d there, some_latency lat (kind i))

pub short_delay_where : (counts : Bool) (lat : Latencies) (i j : Op) (d : ℕ)
    → Contains (delays_where counts lat i j) d → d ≤ 16
short_delay_where counts lat i j d there =
    omega (arith, delay_at_most_where counts lat i j d there, short_latency lat (kind i))

-- the same where they do
pub delay_at_least : (lat : Latencies) (i j : Op) (d : ℕ) → Contains (delays lat i j) d → 1 ≤ d
delay_at_least = delay_at_least_where true

pub delay_at_most : (lat : Latencies) (i j : Op) (d : ℕ) → Contains (delays lat i j) d → d ≤ latency lat i
delay_at_most = delay_at_most_where true

pub short_delay : (lat : Latencies) (i j : Op) (d : ℕ) → Contains (delays lat i j) d → d ≤ 16
short_delay = short_delay_where true
