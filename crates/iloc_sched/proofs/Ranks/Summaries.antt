-- A rank is added to a set or taken out, or words are searched, and the summary stays right.
use Rattle.iloc_sched.proofs.Common.{◌≡◌, ℕ, ◌+◌, ◌-◌, ◌*◌, ◌/◌, ◌%◌, ◌^◌, ◌<◌, ◌≤◌, max, Bool, true, false, List, length, set, bit_and, bit_or, sym, ap, ◌∙◌, ap₂, arith, length-set, bit_at-lt, bit_at_and, bit_at, AddsBit, IsSearched, IsSummary, TakesBit, open_bit, rank_bit, word_at}
use Rattle.iloc_sched.proofs.Ranks.WordBits.{one_if, and_same, and_other, or_same, or_other, or_some}
use Rattle.iloc_sched.proofs.Ranks.Cells.{by_both, cell_same, cell_other, put_same, put_other}

-- rank r is added to set s if b
abbrev pub added : List ℕ → ℕ → ℕ → Bool → List ℕ
added ws s r b = set ws (r / 64 * 37 + s) (bit_or (word_at ws s (r / 64)) (one_if b * 2 ^ (r % 64) % 2 ^ 64))

-- rank r is taken out of set s if b
abbrev pub removed : List ℕ → ℕ → ℕ → Bool → List ℕ
removed ws s r b = set ws (r / 64 * 37 + s) (bit_and (word_at ws s (r / 64)) (2 ^ 64 - 1 - one_if b * 2 ^ (r % 64) % 2 ^ 64))

module _ (words : List ℕ) (s k : ℕ) (small : s < 37) (word : k / 64 * 37 + s < length words) where
  pub added_here : (b : Bool) → rank_bit (added words s k b) s k ≡ max (rank_bit words s k) (one_if b)
  added_here b = put_same words s k _ small word ∙ or_same (word_at words s (k / 64)) (k % 64) (omega arith) b

  pub added_others : (b : Bool) → (t r : ℕ) → t < 37 → (t ≡ s → r ≡ k → ⊥) → rank_bit (added words s k b) t r ≡ rank_bit words t r
  added_others b = put_other words s k _ small word (λ i _ apart. or_other (word_at words s (k / 64)) (k % 64) (omega arith) b i apart)

  pub adds_bit : (b : Bool) → AddsBit words (added words s k b) b s k
  adds_bit b = grind (arith, added_here, added_others, cell_other, cell_same, length-set, or_some)

  pub takes_bit : (b : Bool) → TakesBit words (removed words s k b) b s k
  takes_bit b = grind (arith, and_other, and_same, cell_other, length-set, put_other, put_same)

-- a rank is added to a bucket
module _ (summary summary' words words' : List ℕ) (s k : ℕ) (small : s < 32) (right : IsSummary summary words) where
  pub IsSummary-added : (b : Bool) → AddsBit words words' b s k → AddsBit summary summary' b s (k / 64) → IsSummary summary' words'
  IsSummary-added b below above = grind (arith, by_both)

-- where no more is open than before
module _ (summary words words' : List ℕ) (right : IsSummary summary words) where
  less_open : ((s w : ℕ) → s < 32 → word_at words' s w ≡ word_at words s w)
      → ((c r : ℕ) → c < 4 → open_bit words' c r ≤ open_bit words c r) → length words' ≡ length words
      → ((r : ℕ) → rank_bit words' 36 r ≡ 0) → IsSummary summary words'
  less_open same less size rest = grind arith

  pub IsSummary-kept_out : (j k : ℕ) (b : Bool) → j < 4 → (j ≡ 3 → b ≡ false) → AddsBit words words' b (33 + j) k
      → IsSummary summary words'
  IsSummary-kept_out j k b small free adds = less_open
      (λ s w low. adds.words_kept s w (omega arith) (λ same _. absurd (omega arith)))
      (grind (arith, by_both))
      adds.size
      (grind (arith, by_both))

  pub IsSummary-taken : (k : ℕ) → TakesBit words words' true 32 k → IsSummary summary words'
  IsSummary-taken k takes = grind (arith, less_open)

-- a word leaves the summary of a class if nothing is ready in it
pub IsSummary-emptied : (summary summary' words : List ℕ) (j w : ℕ) (b : Bool) → j < 4 → IsSummary summary words
    → (b ≡ true → word_at words 32 w ≡ 0) → TakesBit summary summary' b (33 + j) w → IsSummary summary' words
IsSummary-emptied summary summary' words j w b small right none takes = grind (arith, bit_at-lt, by_both)

-- the words of a block were searched for what is open beside a class
module _ (summary words : List ℕ) (k block some left : ℕ) (small : k < 4) (there : block * 37 + 37 ≤ length summary)
    (right : IsSummary summary words) (fits : (i : ℕ) → bit_at (word_at summary (33 + k) block) i ≡ 0 → bit_at some i ≡ 0)
    (searched : IsSearched words k block some left) where
  abbrev cleared : List ℕ
  cleared = set summary (block * 37 + (33 + k)) left

  bit_here : (t w : ℕ) → t ≡ 33 + k → w / 64 ≡ block → rank_bit cleared t w ≡ bit_at left (w % 64)
  bit_here t w same at = grind (arith, cell_same)

  bit_was : (t w : ℕ) → t ≡ 33 + k → w / 64 ≡ block → rank_bit summary t w ≡ 0 → bit_at some (w % 64) ≡ 0
  bit_was t w same at none = fits (w % 64) (ap₂ (λ a b. bit_at (word_at summary a b) (w % 64)) (sym same) (sym at) ∙ none)

  bit_else : (t w : ℕ) → t < 37 → (t ≡ 33 + k → w / 64 ≡ block → ⊥) → rank_bit cleared t w ≡ rank_bit summary t w
  bit_else t w low other = ap (λ x. bit_at x (w % 64)) (cell_other summary (33 + k) block left (omega arith) t (w / 64) low other)

  pub IsSummary-searched : IsSummary cleared words
  IsSummary-searched = record {
    buckets = λ s w low. bit_else s w (omega arith) (λ same _. absurd (omega arith)) ∙ right.buckets s w low;
    closed = λ j r low none. by_both (33 + j) (33 + k) (r / 64 / 64) block
        (grind (arith, bit_here))
        (λ other. right.closed j r low (sym (bit_else (33 + j) (r / 64) (omega arith) other) ∙ none));
    there = λ j w low set. by_both (33 + j) (33 + k) (w / 64) block
        (grind (arith, bit_here, bit_was))
        (λ other. right.there j w low (λ none. set (bit_else (33 + j) w (omega arith) other ∙ none)));
    rest = right.rest;
  }

-- what isn't in both summaries, of a class and of the rest, isn't open beside the class
module _ (summary words : List ℕ) (k block : ℕ) (small : k < 4) (right : IsSummary summary words) where
  abbrev both : ℕ
  both = bit_and (word_at summary (33 + k) block) (word_at summary 36 block)

  pub both_less : (i : ℕ) → bit_at (word_at summary (33 + k) block) i ≡ 0 → bit_at both i ≡ 0
  both_less i none = let e = bit_at_and (word_at summary (33 + k) block) (word_at summary 36 block) i in omega arith

  pub both_closed : (r : ℕ) → r / 64 / 64 ≡ block → bit_at both (r / 64 % 64) ≡ 0 → open_bit words k r ≡ 0
  both_closed r here none =
      grind (
        arith,
        bit_at_and (word_at summary (33 + k) block) (word_at summary 36 block) (r / 64 % 64),
        right.closed k r small,
        right.closed 3 r,
        right.rest r,
      )
