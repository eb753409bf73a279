-- The nearest pairs, operation by operation.
use Rattle.iloc_graph.proofs.Common.{◌≡◌, ℕ, zero, suc, ◌+◌, List, [], ◌∷◌, ◌++◌, map, sym, ap, ◌∙◌, append_assoc, append-nil, add-one, arith, false, flat_map, range_with_len, Op, op_at}
use Rattle.iloc_graph.proofs.Common.{Latencies, counts_by, Pair, MemoryRule, is_passed, longest_delay, nearest_to, pair_of, sources, unpassed}
use Rattle.std.proofs.lemmas.List.Concat.{flat_map-append}

-- one number more
range_more : (a n : ℕ) → range_with_len a (suc n) ≡ range_with_len a n ++ (a + n) ∷ []
range_more a zero = let same : a ≡ a + 0 = omega arith in ap (λ k. k ∷ []) same
range_more a (suc n) = grind (arith, range_more (a + 1) n)

-- the pairs to one more operation
pub one_more : (rule : MemoryRule) (lat : Latencies) (ops : List Op) (n : ℕ) (pairs more : List Pair) (found : List ℕ)
    → pairs ≡ flat_map (nearest_to rule lat ops) (range_with_len 0 n) → found ≡ sources rule ops n
    → more ≡ pairs ++ map (pair_of rule lat ops n) found → more ≡ flat_map (nearest_to rule lat ops) (range_with_len 0 (n + 1))
one_more rule lat ops n pairs more found so_far are added =
    let range : range_with_len 0 (n + 1) ≡ range_with_len 0 n ++ n ∷ [] =
    ap (range_with_len 0) (add-one n) ∙ range_more 0 n ∙ ap (λ m. range_with_len 0 n ++ m ∷ []) (omega arith) in
    added ∙ (ap (λ ps. ps ++ map (pair_of rule lat ops n) found) so_far
    ∙ (ap (λ is. flat_map (nearest_to rule lat ops) (range_with_len 0 n) ++ map (pair_of rule lat ops n) is) are
    ∙ sym (ap (flat_map (nearest_to rule lat ops)) range
    ∙ (flat_map-append (nearest_to rule lat ops) (range_with_len 0 n) (n ∷ [])
    ∙ ap (λ ps. flat_map (nearest_to rule lat ops) (range_with_len 0 n) ++ ps) (append-nil (nearest_to rule lat ops n))))))

abbrev pair : ℕ → ℕ → ℕ → Pair
pair i j d = record { first = i; second = j; delay = d }

-- one more of the near operations, from which a pair leads
pub pair_added : (rule : MemoryRule) (lat : Latencies) (ops : List Op) (j i : ℕ) (later : List ℕ) (all more : List Pair) (a b : Op) (d : ℕ)
    → is_passed rule ops i later ≡ false → a ≡ op_at ops i → b ≡ op_at ops j
    → d ≡ longest_delay (counts_by rule ops i j) lat a b → more ≡ all ++ pair i j d ∷ []
    → more ++ map (pair_of rule lat ops j) (unpassed rule ops later) ≡ all ++ map (pair_of rule lat ops j) (unpassed rule ops (i ∷ later))
pair_added rule lat ops j i later all more a b d free from to is added =
    let long : d ≡ longest_delay (counts_by rule ops i j) lat (op_at ops i) (op_at ops j) =
    is ∙ (ap (λ x. longest_delay (counts_by rule ops i j) lat x b) from ∙ ap (longest_delay (counts_by rule ops i j) lat (op_at ops i)) to) in
    rw (free, added, long) (append_assoc all (pair_of rule lat ops j i ∷ []) (map (pair_of rule lat ops j) (unpassed rule ops later)))
