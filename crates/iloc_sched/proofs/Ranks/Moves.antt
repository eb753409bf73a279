-- Words are moved from a bucket to what is ready; for `Calendar::release`.
use Rattle.iloc_sched.proofs.Common.{◌≡◌, ℕ, ◌+◌, ◌-◌, ◌*◌, ◌/◌, ◌%◌, ◌<◌, ◌≤◌, min, max, ◌||◌, eqb, ◌≢◌, List, length, set, bit_or, sym, ap, ◌∙◌, ap₂, arith, length-set, bit_at-lt, bit_at_or, bit_at, HoldsBits, IsSummary, MovesAt, NotesMoved, open_bit, rank_bit, word_at}
use lib.Bits.{or_zero_r}
use Rattle.iloc_sched.proofs.Ranks.Cells.{cell_same, cell_other}

-- all is as it was but what is ready and bucket b in the words that moved
abbrev pub KeepsElse : (ℕ → Type 0) → List ℕ → List ℕ → ℕ → Type 0
KeepsElse Moved words words' b = (s w : ℕ) → s < 37 → (Moved w → (s ≢ 32) × (s ≢ b)) → word_at words' s w ≡ word_at words s w

-- nothing added is no change
or_none : (a b : ℕ) → b ≡ 0 → a ≡ bit_or a b
or_none a b none = sym (ap (bit_or a) none ∙ or_zero_r a)

-- one word, as the code writes it
module _ (words : List ℕ) (w b : ℕ) (small : b < 32) (there : w * 37 + 37 ≤ length words) where
  abbrev joined : List ℕ
  joined = set words (w * 37 + 32) (bit_or (word_at words 32 w) (word_at words b w))

  abbrev pub after_move : List ℕ
  after_move = set joined (w * 37 + b) 0

  pub moved_one : MovesAt words after_move b w
  moved_one = grind (arith, cell_other, cell_same, length-set)

  pub kept_else : KeepsElse (λ v. v ≡ w) words after_move b
  kept_else s v low apart = grind (arith, cell_other)

-- Those words of a block were moved whose bits aren't left.
pub record IsMoving (block left b : ℕ) (words words' : List ℕ) : Type 0 where
  pub moved : (w : ℕ) → w / 64 ≡ block → bit_at left (w % 64) ≡ 0 → MovesAt words words' b w
  pub pending : (w : ℕ) → w / 64 ≡ block → bit_at left (w % 64) ≢ 0 → (word_at words' b w ≡ word_at words b w) × (word_at words' 32 w ≡ word_at words 32 w)
  pub others : KeepsElse (λ w. w / 64 ≡ block) words words' b
  pub size : length words' ≡ length words

pub moving_start : (block left b : ℕ) (words : List ℕ) → ((w : ℕ) → w / 64 ≡ block → bit_at left (w % 64) ≡ 0 → word_at words b w ≡ 0)
    → IsMoving block left b words words
moving_start block left b words none = grind (arith, or_none)

module _ (block left left' b low : ℕ) (words words' words'' : List ℕ) (bucket : b < 32) (small : low < 64)
    (before : IsMoving block left b words words')
    (now : MovesAt words' words'' b (block * 64 + low))
    (kept : KeepsElse (λ w. w ≡ block * 64 + low) words' words'' b)
    (same_size : length words'' ≡ length words')
    (gone : bit_at left' low ≡ 0)
    (stays : (i : ℕ) → i < 64 → i ≢ low → bit_at left' i ≡ bit_at left i) where
  row : (block * 64 + low) / 64 ≡ block
  row = omega arith

  moved_now : MovesAt words words'' b (block * 64 + low)
  moved_now = grind (arith, or_none, row)

  kept_ready : (w : ℕ) → w ≢ block * 64 + low → word_at words'' 32 w ≡ word_at words' 32 w
  kept_ready w other = kept 32 w (omega arith) (λ at. absurd (other at))

  pub moving_step : IsMoving block left' b words words''
  moving_step = grind (arith, kept_ready, moved_now, row)

-- what ranks of a word that was moved are ready
pub moved_ready : (words words' : List ℕ) (b r : ℕ) → MovesAt words words' b (r / 64)
    → eqb (rank_bit words' 32 r) 1 ≡ (eqb (rank_bit words 32 r) 1 || eqb (rank_bit words b r) 1)
moved_ready words words' b r moved = grind (arith, bit_at-lt, bit_at_or)

-- the summary, class after class
pub noting_start : (xs : List ℕ) (some block b : ℕ) → b < 32 → block * 37 + 37 ≤ length xs
    → NotesMoved xs (set xs (block * 37 + b) 0) some block b 0
noting_start xs some block b small there = grind (arith, cell_other, cell_same, length-set)

module _ (xs ys : List ℕ) (some block b n : ℕ) (small : b < 32) (low : n < 4) (there : block * 37 + 37 ≤ length xs)
    (before : NotesMoved xs ys some block b n) where
  abbrev noted_more : List ℕ
  noted_more = set ys (block * 37 + (33 + n)) (bit_or (word_at ys (33 + n) block) some)

  pub noting_more : NotesMoved xs noted_more some block b (n + 1)
  noting_more = grind (arith, cell_other, cell_same, length-set)

-- the summary of a block that was moved
module _ (summary summary' words words' : List ℕ) (block b some : ℕ) (small : b < 32) (right : IsSummary summary words)
    (is : some ≡ word_at summary b block) (above : NotesMoved summary summary' some block b 4) (held : HoldsBits words some block)
    (below : (w : ℕ) → w / 64 ≡ block → MovesAt words words' b w)
    (below_else : KeepsElse (λ w. w / 64 ≡ block) words words' b) (size : length words' ≡ length words) where
  same_bits : (t w : ℕ) → t < 32 → (w / 64 ≡ block → t ≢ b) → rank_bit summary' t w ≡ min 1 (word_at words' t w)
  same_bits t w low apart = grind arith

  class_bit : (k w : ℕ) → k < 4 → w / 64 ≡ block
      → rank_bit summary' (33 + k) w ≡ max (rank_bit summary (33 + k) w) (bit_at some (w % 64))
  class_bit k w low here = grind (arith, bit_at_or)

  due : (w : ℕ) → w / 64 ≡ block → bit_at some (w % 64) ≡ min 1 (word_at words b w)
  due w here = ap (λ v. bit_at v (w % 64)) is ∙ ap (λ v. bit_at (word_at summary b v) (w % 64)) (sym here) ∙ right.buckets b w small

  same_open : (k r : ℕ) → word_at words' 32 (r / 64) ≡ word_at words 32 (r / 64)
      → word_at words' (33 + k) (r / 64) ≡ word_at words (33 + k) (r / 64) → open_bit words' k r ≡ open_bit words k r
  same_open k r ready kept = ap₂ (λ a b. min (bit_at a (r % 64)) (1 - bit_at b (r % 64))) ready kept

  closed_bits : (k r : ℕ) → k < 4 → rank_bit summary' (33 + k) (r / 64) ≡ 0 → open_bit words' k r ≡ 0
  closed_bits k r low none = grind (arith, class_bit, due, or_none, same_open)

  there_bits : (k w : ℕ) → k < 4 → rank_bit summary' (33 + k) w ≢ 0 → w * 37 + 37 ≤ length words'
  there_bits k w low set = grind (arith, class_bit)

  pub summary_moved : IsSummary summary' words'
  summary_moved = grind (arith, closed_bits, same_bits, there_bits)
