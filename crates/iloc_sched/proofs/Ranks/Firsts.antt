-- The first of what is ready and not kept out; for `Calendar::first`.
use Rattle.iloc_sched.proofs.Common.{◌≡◌, ℕ, ◌+◌, ◌-◌, ◌*◌, ◌/◌, ◌%◌, ◌^◌, ◌<◌, ◌≤◌, min, ◌≢◌, List, length, bit_and, Some, None, sym, ap, ◌∙◌, arith, w64, and_le_l, bit_at-trailing_zeros, bit_at_and, bit_at_not, bit_at, bit_not, trailing_zeros, HoldsBits, IsFirstBit, IsFirstWithin, IsSearched}
use Rattle.std.specs.Int.Count.{count_trailing_zeros, trailing_of_zero}
use Rattle.iloc_sched.proofs.Basics.Cases.{by_eq}
use Rattle.iloc_sched.proofs.Ranks.WordBits.{no_bit}

-- of one word
module _ (ready kept_out : ℕ) (fits : ready < 2 ^ 64) (kept_fits : kept_out < 2 ^ 64) where
  abbrev shown : ℕ
  shown = bit_and ready (bit_not w64 kept_out)

  open_at : (i : ℕ) → i < 64 → bit_at shown i ≡ min (bit_at ready i) (1 - bit_at kept_out i)
  open_at i small = bit_at_and ready (bit_not w64 kept_out) i ∙ ap (min (bit_at ready i)) (bit_at_not w64 kept_out i kept_fits small)

  pub no_first_bit : shown ≡ 0 → IsFirstBit ready kept_out None
  no_first_bit none = λ i small. sym (open_at i small) ∙ no_bit shown i none

  pub the_first_bit : shown ≢ 0 → IsFirstBit ready kept_out (Some (trailing_zeros w64 shown))
  the_first_bit some =
      let lowest = bit_at-trailing_zeros w64 shown (omega arith) (omega (arith, and_le_l ready (bit_not w64 kept_out))) in
      grind (arith, open_at)

module _ (left : ℕ) (fits : left < 2 ^ 64) (more : left ≢ 0) where
  lowest : (trailing_zeros w64 left < 64) × (bit_at left (trailing_zeros w64 left) ≡ 1)
      × ((i : ℕ) → i < trailing_zeros w64 left → bit_at left i ≡ 0)
  lowest = bit_at-trailing_zeros w64 left (omega arith) fits

  low_is : trailing_zeros w64 left % 64 ≡ trailing_zeros w64 left
  low_is = omega (arith, lowest.0)

  pub low_one : bit_at left (trailing_zeros w64 left % 64) ≡ 1
  low_one = ap (bit_at left) low_is ∙ lowest.1

  pub low_set : bit_at left (trailing_zeros w64 left % 64) ≢ 0
  low_set = λ none. let one = low_one in absurd (omega arith)

-- the first word that is left is there, and so is that of a block with none
pub low_there : (words : List ℕ) (left block : ℕ) → left < 2 ^ 64 → HoldsBits words left block → block * 64 * 37 + 37 ≤ length words
    → (block * 64 + trailing_zeros w64 left % 64) * 37 + 37 ≤ length words
low_there words left block fits holds first = by_eq left 0
    (λ none. let low : trailing_zeros w64 left ≡ 64 = ap (count_trailing_zeros 64) none ∙ trailing_of_zero 64 in omega arith)
    (λ some. holds (trailing_zeros w64 left % 64) (omega arith) (low_set left fits some))

-- what is left is there still
pub still_held : (words : List ℕ) (rest rest' block low : ℕ) → HoldsBits words rest block → bit_at rest' low ≡ 0
    → ((i : ℕ) → i < 64 → i ≢ low → bit_at rest' i ≡ bit_at rest i) → HoldsBits words rest' block
still_held words rest rest' block low holds gone stays = grind arith

module _ (words : List ℕ) (k block some left : ℕ) (so_far : IsSearched words k block some left) (fits : left < 2 ^ 64)
    (more : left ≢ 0) where
  -- its first word has some
  pub found_here : (f : ℕ) → IsFirstWithin words k (λ r. r / 64 ≡ block * 64 + trailing_zeros w64 left % 64) (Some f)
      → IsFirstWithin words k (λ r. r / 64 / 64 ≡ block) (Some f)
  found_here f first =
      let is : trailing_zeros w64 left % 64 ≡ trailing_zeros w64 left = low_is left fits more in
      let at : f / 64 ≡ block * 64 + trailing_zeros w64 left % 64 = first.0 in (
        omega arith,
        first.1,
        λ r here before. by_eq (r / 64) (block * 64 + trailing_zeros w64 left % 64)
            (λ same. first.2 r same before)
            (λ other. so_far.passed r here ((lowest left fits more).2 (r / 64 % 64) (omega arith))),
      )

  -- it has none
  pub next_search : (left' : ℕ) → IsFirstWithin words k (λ r. r / 64 ≡ block * 64 + trailing_zeros w64 left % 64) None
      → bit_at left' (trailing_zeros w64 left % 64) ≡ 0
      → ((i : ℕ) → i < 64 → i ≢ trailing_zeros w64 left % 64 → bit_at left' i ≡ bit_at left i)
      → IsSearched words k block some left'
  next_search left' none gone stays = record {
    passed = λ r here out. by_eq (r / 64 % 64) (trailing_zeros w64 left % 64)
        (λ same. none r (omega arith))
        (λ other. so_far.passed r here (sym (stays (r / 64 % 64) (omega arith) other) ∙ out));
    within = λ i small set. so_far.within i small (λ out. set (stays i small (λ same. set (ap (bit_at left') same ∙ gone)) ∙ out));
  }
