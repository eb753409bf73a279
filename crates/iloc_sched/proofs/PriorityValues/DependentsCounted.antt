-- The bits of the sets are counted, 64 operations at a time; for `Heuristic::Descendants`.
use Rattle.iloc_sched.proofs.Common.{◌≡◌, ℕ, ◌+◌, ◌-◌, ◌^◌, ◌<◌, ◌≤◌, Bool, true, false, cond, List, map, length, get_or, count_ones, count_by, sym, refl, ap, ◌∙◌, inl, inr, true≢false, arith, cases_lt, get_or_past, get_or-map-range_with_len, length-map-range_with_len, bit_at-lt, bit_at_above, same_from_bits, bit_at, range_with_len, Op, by_bool, Latencies, Counts, depends_on_where, descendants_where, AreMarked}
use Rattle.std.specs.Simd.Lanes.{mask_l}
use Rattle.std.proofs.lemmas.Simd.{ones-mask_l, bit_mask_l}
use Rattle.iloc_rules.proofs.Basics.CountedRanges.{count_range, none_in_range}
use Rattle.iloc_sched.proofs.PriorityValues.Dependents.{depends_within}

-- a set of 64 bits is the mask of what depends on the operation
mask_is : (p : ℕ → Bool) (base m : ℕ) → m < 2 ^ 64 → ((b : ℕ) → b < 64 → bit_at m b ≡ 1 → p (base + b) ≡ true)
    → ((b : ℕ) → b < 64 → p (base + b) ≡ true → bit_at m b ≡ 1) → m ≡ mask_l (map p (range_with_len base 64))
mask_is p base m small only all = same_from_bits m (mask_l (map p (range_with_len base 64))) (λ b.
    bit b ∙ sym (bit_mask_l (map p (range_with_len base 64)) b))
  where
    bit : (b : ℕ) → bit_at m b ≡ cond (get_or (map p (range_with_len base 64)) b false) 1 0
    bit b = elim (cases_lt b 64) [
      | inl below ↦
          by_bool (p (base + b))
          (λ t. all b below t ∙ sym (ap (λ v. cond v 1 0) (at b below ∙ t)))
          (λ f. not_set b below f ∙ sym (ap (λ v. cond v 1 0) (at b below ∙ f)))
      | inr above ↦
          bit_at_above m 64 b small above
          ∙ sym (ap (λ v. cond v 1 0) (get_or_past (map p (range_with_len base 64)) b false
          (let size : length (map p (range_with_len base 64)) ≡ 64 = length-map-range_with_len p base 64 in omega arith)))
    ]
      where
        at : (b : ℕ) → b < 64 → get_or (map p (range_with_len base 64)) b false ≡ p (base + b)
        at b below = get_or-map-range_with_len p base 64 b (base + b) false below refl

        not_set : (b : ℕ) → b < 64 → p (base + b) ≡ false → bit_at m b ≡ 0
        not_set b below f =
            let two : bit_at m b < 2 = bit_at-lt m b in
            elim (cases_lt (bit_at m b) 1) [
              | inl none ↦ omega arith
              | inr one ↦ absurd (let is : p (base + b) ≡ true = only b below (omega arith) in
                  true≢false (sym is ∙ f))
            ]

pub counted_more : (counts : Counts) (lat : Latencies) (ops : List Op) (base i : ℕ) (masks : List ℕ) → AreMarked counts lat ops base masks
    → i < length ops → get_or masks i 0 < 2 ^ 64
    → count_by (depends_on_where counts lat ops i) (range_with_len 0 base) + count_ones (get_or masks i 0)
    ≡ count_by (depends_on_where counts lat ops i) (range_with_len 0 (base + 64))
counted_more counts lat ops base i masks marked within small =
    let ones : count_ones (get_or masks i 0) ≡ count_by (depends_on_where counts lat ops i) (range_with_len base 64) =
    ap count_ones (mask_is (depends_on_where counts lat ops i) base (get_or masks i 0) small
    (λ b below. marked.only i b within below) (λ b below. marked.all i b within below))
    ∙ ones-mask_l (depends_on_where counts lat ops i) (range_with_len base 64) in
    grind (arith, count_range)

pub counted_all : (counts : Counts) (lat : Latencies) (ops : List Op) (i n : ℕ) → length ops ≤ n
    → count_by (depends_on_where counts lat ops i) (range_with_len 0 n) ≡ descendants_where counts lat ops i
counted_all counts lat ops i n enough =
    let rest : ℕ = n - length ops in
    let all : count_by (depends_on_where counts lat ops i) (range_with_len 0 (length ops + rest))
    ≡ count_by (depends_on_where counts lat ops i) (range_with_len 0 (length ops))
    + count_by (depends_on_where counts lat ops i) (range_with_len (length ops) rest) =
    count_range (depends_on_where counts lat ops i) 0 (length ops) rest (length ops) (omega arith) in
    grind (arith, depends_within, none_in_range)
