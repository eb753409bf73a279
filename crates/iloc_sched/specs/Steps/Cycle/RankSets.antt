-- Sets of ranks as words of 64 bits, side by side: word w of set s is number w * 37 + s.
use Rattle.std.specs.Prelude.{ℕ, ◌+◌, ◌-◌, ◌*◌, ◌/◌, ◌%◌, ◌≡◌, ◌≢◌, ◌<◌, ◌≤◌, List, length, slice_index, min, max, Bool, bit_or, Option, Some, None}
use Rattle.std.specs.Int.{bit_at, from_bool}

abbrev pub word_at : List ℕ → ℕ → ℕ → ℕ
word_at words s w = slice_index words (w * 37 + s)

-- the bit of rank r in set s
abbrev pub rank_bit : List ℕ → ℕ → ℕ → ℕ
rank_bit words s r = bit_at (word_at words s (r / 64)) (r % 64)

-- rank k is added to set s if b
pub record AddsBit (words words' : List ℕ) (b : Bool) (s k : ℕ) : Type 0 where
  pub here : rank_bit words' s k ≡ max (rank_bit words s k) (from_bool b)
  pub others : (t r : ℕ) → t < 37 → (t ≡ s → r ≡ k → ⊥) → rank_bit words' t r ≡ rank_bit words t r
  pub word : min 1 (word_at words' s (k / 64)) ≡ max (min 1 (word_at words s (k / 64))) (from_bool b)
  pub words_kept : (t w : ℕ) → t < 37 → (t ≡ s → w ≡ k / 64 → ⊥) → word_at words' t w ≡ word_at words t w
  pub size : length words' ≡ length words

-- rank k is taken out of set s if b
pub record TakesBit (words words' : List ℕ) (b : Bool) (s k : ℕ) : Type 0 where
  pub here : rank_bit words' s k ≡ min (rank_bit words s k) (1 - from_bool b)
  pub others : (t r : ℕ) → t < 37 → (t ≡ s → r ≡ k → ⊥) → rank_bit words' t r ≡ rank_bit words t r
  pub words_kept : (t w : ℕ) → t < 37 → (t ≡ s → w ≡ k / 64 → ⊥) → word_at words' t w ≡ word_at words t w
  pub size : length words' ≡ length words

-- word w was moved from bucket b to what is ready
abbrev pub MovesAt : List ℕ → List ℕ → ℕ → ℕ → Type 0
MovesAt words words' b w =
    (word_at words' b w ≡ 0) × (word_at words' 32 w ≡ bit_or (word_at words 32 w) (word_at words b w))

-- In the summary: the words of a block that bucket b had may have what is open, whatever the class, of the first n classes.
pub record NotesMoved (summary summary' : List ℕ) (some block b n : ℕ) : Type 0 where
  pub empty : word_at summary' b block ≡ 0
  pub noted : (k : ℕ) → k < n → word_at summary' (33 + k) block ≡ bit_or (word_at summary (33 + k) block) some
  pub others : (s w : ℕ) → s < 37 → (w ≡ block → s ≢ b) → (w ≡ block → 33 ≤ s → 33 + n ≤ s) → word_at summary' s w ≡ word_at summary s w
  pub size : length summary' ≡ length summary

-- the words of a block whose bits are set are there, in all sets
abbrev pub HoldsBits : List ℕ → ℕ → ℕ → Type 0
HoldsBits words bits block = (i : ℕ) → i < 64 → bit_at bits i ≢ 0 → (block * 64 + i) * 37 + 37 ≤ length words

-- the first bit that is ready and isn't kept out, if there is one
abbrev pub IsFirstBit : ℕ → ℕ → Option ℕ → Type 0
IsFirstBit ready kept_out None = (i : ℕ) → i < 64 → min (bit_at ready i) (1 - bit_at kept_out i) ≡ 0
IsFirstBit ready kept_out (Some bit) =
    (bit < 64) × (min (bit_at ready bit) (1 - bit_at kept_out bit) ≡ 1)
    × ((i : ℕ) → i < bit → min (bit_at ready i) (1 - bit_at kept_out i) ≡ 0)

-- 1 where rank r is ready and not kept out by an operation of the class at place k
abbrev pub open_bit : List ℕ → ℕ → ℕ → ℕ
open_bit words k r = min (rank_bit words 32 r) (1 - rank_bit words (33 + k) r)

-- the lowest rank that is open in `words` and `Within` bounds, if there is one
abbrev pub IsFirstWithin : List ℕ → ℕ → (ℕ → Type 0) → Option ℕ → Type 0
IsFirstWithin words k Within None = (r : ℕ) → Within r → open_bit words k r ≡ 0
IsFirstWithin words k Within (Some first) =
    Within first × (open_bit words k first ≡ 1) × ((r : ℕ) → Within r → r < first → open_bit words k r ≡ 0)

-- the words of a block whose bits aren't left have nothing open, and no other bits are left than of `some`
pub record IsSearched (words : List ℕ) (k block some left : ℕ) : Type 0 where
  pub passed : (r : ℕ) → r / 64 / 64 ≡ block → bit_at left (r / 64 % 64) ≡ 0 → open_bit words k r ≡ 0
  pub within : (i : ℕ) → i < 64 → bit_at left i ≢ 0 → bit_at some i ≢ 0

-- By bucket bit w of the summary says whether word w has a bit. By class it says whether word w, which is there, may have a
-- rank that is open. The rest keeps nothing out.
pub record IsSummary (summary words : List ℕ) : Type 0 where
  pub buckets : (s w : ℕ) → s < 32 → rank_bit summary s w ≡ min 1 (word_at words s w)
  pub closed : (k r : ℕ) → k < 4 → rank_bit summary (33 + k) (r / 64) ≡ 0 → open_bit words k r ≡ 0
  pub there : (k w : ℕ) → k < 4 → rank_bit summary (33 + k) w ≢ 0 → w * 37 + 37 ≤ length words
  pub rest : (r : ℕ) → rank_bit words 36 r ≡ 0
