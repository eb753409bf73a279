-- A tail is the greatest of latency, d + tail(j) over the delay pairs, and what the loads up to the next store need; for `least`.
use Rattle.iloc_bound.proofs.Common.{◌≡◌, ℕ, zero, suc, ◌+◌, ◌<◌, max, true, false, List, [], ◌∷◌, length, drop, refl, ap, add-one, arith, drop_more, Op, op_at, is_load, is_store, kind, latency, Kind, Latencies, behind, needed, tail, tails, tails_under, chain_tail, loads_by, loads_from, tail_by, MemoryRule, Address, Book}
use Rattle.iloc_meaning.proofs.Cases.{by_bool}
use Rattle.iloc_rules.specs.Steps.Chains.{IsChainOut}
use Rattle.iloc_rules.proofs.Outcome.UsedEffects.{store_kind_latency}
use Rattle.iloc_rules.specs.Apart.{by_address}
use Rattle.iloc_rules.proofs.PriorityValues.Longest.{chain_own, chain_pairs, chain_reached}
use Rattle.iloc_rules.proofs.PriorityValues.LongestWhere.{length_where}

pub length-tails : (lat : Latencies) (ops : List Op) → length (tails lat ops) ≡ length ops
length-tails lat [] = refl
length-tails lat (op ∷ later) = ap suc (length-tails lat later)

pub length-tails_under : (rule : MemoryRule) (lat : Latencies) (ops : List Op) → length (tails_under rule lat ops) ≡ length ops
length-tails_under Book lat ops = length-tails lat ops
length-tails_under Address lat ops = length_where (by_address ops) lat ops

-- the part of a tail that the rule of stores leaves
abbrev store_tail : Latencies → List Op → ℕ → ℕ
store_tail lat ops i = behind lat (op_at ops i) (drop (suc i) ops) (drop (suc i) (tails lat ops))

tail_value : (lat : Latencies) (ops : List Op) (i : ℕ) → i < length ops
    → tail lat ops i ≡ max (store_tail lat ops i) (chain_tail lat ops i)
tail_value lat [] i within = absurd (omega arith)
tail_value lat (op ∷ later) zero within = refl
tail_value lat (op ∷ later) (suc i) within = tail_value lat later i (omega arith)

pub is_tail : (lat : Latencies) (ops : List Op) → IsChainOut lat ops (chain_tail lat ops) (tail lat ops)
is_tail lat ops = record {
  own = λ i within. chain_own lat ops (tails lat ops) i;
  pairs = chain_pairs lat ops (tails lat ops) (length-tails lat ops);
  reached = chain_reached lat ops (tails lat ops) (length-tails lat ops);
  whole = λ i within. omega (arith, tail_value lat ops i within);
}

-- The loads

loads_more : (lat : Latencies) (ops : List Op) (i : ℕ) → i < length ops
    → loads_from lat ops i ≡ loads_by (kind (op_at ops i)) (tail lat ops i) (loads_from lat ops (i + 1))
loads_more lat ops i within = grind (arith, drop_more, length-tails)

-- a tail by its parts
tail_parts : (lat : Latencies) (ops : List Op) (i : ℕ) → i < length ops → tail lat ops i
    ≡ tail_by (kind (op_at ops i)) (chain_tail lat ops i) (latency lat (op_at ops i)) (loads_from lat ops (i + 1))
tail_parts lat ops i within =
    let whole : tail lat ops i ≡ max (store_tail lat ops i) (chain_tail lat ops i) = tail_value lat ops i within in
    let next : loads_from lat ops (i + 1) ≡ loads_from lat ops (suc i) = ap (loads_from lat ops) (add-one i) in
    let needs = ap (needed (latency lat (op_at ops i)) 1) next in
    by_bool (is_store (kind (op_at ops i)))
    (grind arith)
    (grind arith)

not_stored : (k : Kind) → is_load k ≡ true → is_store k ≡ false
not_stored k is = grind arith

-- the tail by the latency of stores
pub tail_by_store : (lat : Latencies) (ops : List Op) (i : ℕ) → i < length ops → tail_by (kind (op_at ops i))
    (chain_tail lat ops i) lat.store (loads_from lat ops (i + 1)) ≡ tail lat ops i
tail_by_store lat ops i within = grind (arith, store_kind_latency, tail_parts)

-- a load leaves what its delays leave
pub load_kept : (lat : Latencies) (ops : List Op) (i : ℕ) → i < length ops
    → loads_by (kind (op_at ops i)) (chain_tail lat ops i) (loads_from lat ops (i + 1)) ≡ loads_from lat ops i
load_kept lat ops i within = grind (arith, loads_more, not_stored, tail_parts)
