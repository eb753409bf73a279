-- A longest chain, link by link.
use Rattle.iloc_explain.proofs.Common.{◌≡◌, ℕ, ◌+◌, ◌-◌, ◌<◌, ◌≤◌, max, Bool, ◌↔◌, IsTrue, Contains, subst, op_at, counts_by, delays_where, List, [], ◌∷◌, ◌++◌, length, slice_index, fold, sym, refl, ap, ◌∙◌, ap₂, inl, inr, arith, cases_lt, cases_order, Op, Latencies, MemoryRule, chain_by, chains_by}
use Rattle.iloc_timed.proofs.Greatest.{item_le_fold_max, fold_max_le}
use Rattle.iloc_explain.specs.Chain.{Continues, IsNext, IsChainFrom, IsFirstOfGreatest, IsLongestChain, Spans, SpansTheGreatest}
use Rattle.iloc_explain.proofs.ChainLengths.{is_chain, length-chains}
use Rattle.iloc_explain.specs.Steps.Links.{IsChainTo, IsLinked}

-- one more link
linked_more : (rule : MemoryRule) (lat : Latencies) (ops : List Op) (i : ℕ) (front : List ℕ) (last j : ℕ) → IsNext rule lat ops last j
    → IsLinked rule lat ops i (front ++ last ∷ []) → IsLinked rule lat ops i ((front ++ last ∷ []) ++ j ∷ [])
linked_more rule lat ops i [] last j next linked = (linked, rw linked at next, refl)
linked_more rule lat ops i (x ∷ []) last j next linked =
    (linked.0, linked.1, linked_more rule lat ops last [] last j next linked.2)
linked_more rule lat ops i (x ∷ y ∷ front) last j next linked =
    (linked.0, linked.1, linked_more rule lat ops y (y ∷ front) last j next linked.2)

-- a chain ends where nothing continues it
linked_ends : (rule : MemoryRule) (lat : Latencies) (ops : List Op) (i : ℕ) (front : List ℕ) (last : ℕ)
    → ((j : ℕ) → Continues rule lat ops last j → ⊥) → IsLinked rule lat ops i (front ++ last ∷ [])
    → IsChainFrom rule lat ops i (front ++ last ∷ [])
linked_ends rule lat ops i [] last none linked = (linked, rw linked at none)
linked_ends rule lat ops i (x ∷ []) last none linked =
    (linked.0, linked.1, linked_ends rule lat ops last [] last none linked.2)
linked_ends rule lat ops i (x ∷ y ∷ front) last none linked =
    (linked.0, linked.1, linked_ends rule lat ops y (y ∷ front) last none linked.2)

-- what starts with operation i spans its priority
chain_spans : (rule : MemoryRule) (lat : Latencies) (ops : List Op) (i : ℕ) (chain : List ℕ) → i < length ops → IsChainFrom rule lat ops i chain
    → Spans rule lat ops chain (chain_by rule lat ops i)
chain_spans rule lat ops i [] within is = absurd is
chain_spans rule lat ops i (x ∷ []) within is = rw is.0 (elim ((is_chain rule lat ops).reached i within) [
  | inl own ↦ own
  | inr (k, d, pair, sum) ↦ absurd (is.1 k record { delay = d; pair = pair; sum = sum })
])
chain_spans rule lat ops i (x ∷ y ∷ chain) within is =
    let by : Continues rule lat ops i y = is.1.continues in
    rw is.0 (by.delay, chain_by rule lat ops y, by.pair, by.sum, chain_spans rule lat ops y (y ∷ chain) by.pair.within is.2)

-- there is one next
next_same : (rule : MemoryRule) (lat : Latencies) (ops : List Op) (i j k : ℕ) → IsNext rule lat ops i j → IsNext rule lat ops i k → j ≡ k
next_same rule lat ops i j k one other = elim (cases_order j k) [
  | inl same ↦ same
  | inr (inl less) ↦ absurd (other.first j less one.continues)
  | inr (inr more) ↦ absurd (one.first k more other.continues)
]

-- there is one chain from an operation
chain_same : (rule : MemoryRule) (lat : Latencies) (ops : List Op) (i : ℕ) (chain other : List ℕ) → IsChainFrom rule lat ops i chain
    → IsChainFrom rule lat ops i other → chain ≡ other
chain_same rule lat ops i [] other is also = absurd is
chain_same rule lat ops i (x ∷ []) [] is also = absurd also
chain_same rule lat ops i (x ∷ []) (z ∷ []) is also = ap (λ n. n ∷ []) (is.0 ∙ sym also.0)
chain_same rule lat ops i (x ∷ []) (z ∷ w ∷ other) is also = absurd (is.1 w also.1.continues)
chain_same rule lat ops i (x ∷ y ∷ chain) [] is also = absurd also
chain_same rule lat ops i (x ∷ y ∷ chain) (z ∷ []) is also = absurd (also.1 y is.1.continues)
chain_same rule lat ops i (x ∷ y ∷ chain) (z ∷ w ∷ other) is also =
    let next : y ≡ w = next_same rule lat ops i y w is.1 also.1 in
    let there : IsChainFrom rule lat ops y (w ∷ other) = rw (sym next) at also.2 in
    ap₂ (λ n rest. n ∷ rest) (is.0 ∙ sym also.0) (chain_same rule lat ops y (y ∷ chain) (w ∷ other) is.2 there)

first_same : (rule : MemoryRule) (lat : Latencies) (ops : List Op) (i j : ℕ) → IsFirstOfGreatest rule lat ops i → IsFirstOfGreatest rule lat ops j → i ≡ j
first_same rule lat ops i j one other = grind (arith, cases_order)

-- there is one longest chain of this kind
pub longest_same : (rule : MemoryRule) (lat : Latencies) (ops : List Op) (chain other : List ℕ) → IsLongestChain rule lat ops chain
    → IsLongestChain rule lat ops other → chain ≡ other
longest_same rule lat ops chain other is also = grind (arith, chain_same, first_same)

-- and it spans the greatest priority
pub longest_spans : (rule : MemoryRule) (lat : Latencies) (ops : List Op) (chain : List ℕ) → IsLongestChain rule lat ops chain
    → SpansTheGreatest rule lat ops chain
longest_spans rule lat [] chain is = is
longest_spans rule lat (op ∷ ops) chain (i, first, is) =
    let size = length-chains rule lat (op ∷ ops) in
    let known : i < length (chains_by rule lat (op ∷ ops)) = rw size first.known in
    let low : chain_by rule lat (op ∷ ops) i ≤ fold max 0 (chains_by rule lat (op ∷ ops)) =
    item_le_fold_max 0 (chains_by rule lat (op ∷ ops)) i known in
    let high : fold max 0 (chains_by rule lat (op ∷ ops)) ≤ chain_by rule lat (op ∷ ops) i =
    fold_max_le 0 (chains_by rule lat (op ∷ ops)) (chain_by rule lat (op ∷ ops) i) (omega arith)
    (λ k within. first.greatest k (rw size at within)) in
    let greatest : fold max 0 (chains_by rule lat (op ∷ ops)) ≡ chain_by rule lat (op ∷ ops) i = omega arith in
    rw greatest (chain_spans rule lat (op ∷ ops) i chain first.known is)

pub chain_start : (rule : MemoryRule) (lat : Latencies) (ops : List Op) (i : ℕ) → i < length ops → IsChainTo rule lat ops i i (i + 1) (i ∷ [])
chain_start rule lat ops i within = grind arith

pub chain_more : (rule : MemoryRule) (lat : Latencies) (ops : List Op) (i last j : ℕ) (chain : List ℕ) → IsChainTo rule lat ops i last j chain
    → j < length ops → Continues rule lat ops last j → IsChainTo rule lat ops i j (j + 1) (chain ++ j ∷ [])
chain_more rule lat ops i last j chain so_far within does = grind (arith, linked_more)

pub chain_kept : (rule : MemoryRule) (lat : Latencies) (ops : List Op) (i last j : ℕ) (chain : List ℕ) → IsChainTo rule lat ops i last j chain
    → (Continues rule lat ops last j → ⊥) → IsChainTo rule lat ops i last (j + 1) chain
chain_kept rule lat ops i last j chain so_far not = grind (arith, cases_lt)

chain_whole : (rule : MemoryRule) (lat : Latencies) (ops : List Op) (i last j : ℕ) (chain : List ℕ) → IsChainTo rule lat ops i last j chain
    → length ops ≤ j → IsChainFrom rule lat ops i chain
chain_whole rule lat ops i last j chain so_far all =
    let linked : IsLinked rule lat ops i (so_far.front ++ last ∷ []) = rw so_far.ends at so_far.linked in
    rw so_far.ends (linked_ends rule lat ops i so_far.front last
    (λ k does. let inside : k < length ops = does.pair.within in so_far.none k (omega arith) does) linked)

pub chain_ends : (rule : MemoryRule) (lat : Latencies) (ops : List Op) (i last j : ℕ) (chain : List ℕ) → IsChainTo rule lat ops i last j chain
    → length ops ≤ j → IsFirstOfGreatest rule lat ops i → IsLongestChain rule lat ops chain
chain_ends rule lat [] i last j chain so_far all first = absurd (let known : last < 0 = so_far.known in omega arith)
chain_ends rule lat (op ∷ ops) i last j chain so_far all first =
    (i, first, chain_whole rule lat (op ∷ ops) i last j chain so_far all)

-- the place of the greatest number is that of the first operation of the greatest priority
pub first_of_greatest : (rule : MemoryRule) (lat : Latencies) (ops : List Op) (prios : List ℕ) (i : ℕ) → prios ≡ chains_by rule lat ops
    → i < length prios → ((k : ℕ) → k < length prios → slice_index prios k ≤ slice_index prios i)
    → ((k : ℕ) → k < i → slice_index prios k < slice_index prios i) → IsFirstOfGreatest rule lat ops i
first_of_greatest rule lat ops prios i are within most first = grind (arith, length-chains)

-- whether an operation continues a chain, by what is read of the longest chains
pub continues_where : (rule : MemoryRule) (lat : Latencies) (ops : List Op) (i j : ℕ) (chains : List ℕ) (delay : ℕ)
    (found : Bool) → i < j → j < length ops → chains ≡ chains_by rule lat ops
    → slice_index chains j ≤ slice_index chains i → delay ≡ slice_index chains i - slice_index chains j
    → IsTrue found ↔ Contains (delays_where (counts_by rule ops i j) lat (op_at ops i) (op_at ops j)) delay
    → IsTrue found ↔ Continues rule lat ops i j
continues_where rule lat ops i j chains delay found order within are less long has =
    let own : slice_index chains i ≡ chain_by rule lat ops i = ap (λ xs. slice_index xs i) are in
    let next : slice_index chains j ≡ chain_by rule lat ops j = ap (λ xs. slice_index xs j) are in (
      λ holds. record {
        delay = delay;
        pair = record { order = order; within = within; delay = has.0 holds };
        sum = omega arith;
      },
      λ does. has.1 (subst (Contains (delays_where (counts_by rule ops i j) lat (op_at ops i) (op_at ops j)))
          (let sum : chain_by rule lat ops i ≡ does.delay + chain_by rule lat ops j = does.sum in omega arith) does.pair.delay),
    )
